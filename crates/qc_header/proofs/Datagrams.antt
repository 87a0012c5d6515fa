-- The packets of a datagram, one by one, and what the grammar says of them
use Rattle.std.proofs.Common.{◌≡◌, ℕ, zero, suc, ◌<◌, ◌≤◌, Bool, List, [], ◌∷◌, length, ◌⊎◌, inl, inr, Result, Ok, Err, IfOk, IfErr, MatchResult, refl, sym, ap, ◌∙◌, arith}
use Rattle.qc_base.specs.Grammar.{IsBytes}
use Rattle.qc_base.proofs.Exact.{ends_bytes, same_value, same_rest}
use Rattle.qc_header.specs.declared.protected.PacketDecodeError.{PacketDecodeError}
use Rattle.qc_header.specs.declared.protected.PacketDecodeError.TheVariants.{OutOfMemory}
use Rattle.qc_header.specs.HeaderGrammar.{DatagramItem, Datagram, PieceAt, NoPieceAt}
use Rattle.qc_header.specs.HeaderGrammar as grammar
use Rattle.qc_header.specs.HeaderReading.{piece_at}
use Rattle.qc_header.specs.Piece.{Piece}
use Rattle.qc_header.specs.Pieces.{pieces_and, pieces_within, pieces_of}
use Rattle.qc_header.proofs.FrontPiece.{piece_takes, piece_again, piece_ends}
use Rattle.qc_header.proofs.Faults.{piece_none, none_again}

-- the others are the same by any two functions that agree on what is left
same_and : (v : Result (Piece × List ℕ) PacketDecodeError) (g h : List ℕ → List DatagramItem) → ((p : Piece) (z : List ℕ) → v ≡ Ok (p, z) → g z ≡ h z)
    → pieces_and v g ≡ pieces_and v h
same_and (Ok x) g h same = ap (λ (items : List DatagramItem). Ok x.0 ∷ items) (same x.0 x.1 refl)
same_and (Err e) g h same = refl

module _ (k : ℕ) (versions : List ℕ) (grease : Bool) where
  -- any bound that is long enough gives the same items
  enough : (m n : ℕ) (a : List ℕ) → length a ≤ m → length a ≤ n → pieces_within m k versions grease a ≡ pieces_within n k versions grease a
  enough zero zero a g h = refl
  enough zero (suc n) [] g h = refl
  enough zero (suc n) (b ∷ a) g h = absurd (omega arith)
  enough (suc m) zero [] g h = refl
  enough (suc m) zero (b ∷ a) g h = absurd (omega arith)
  enough (suc m) (suc n) [] g h = refl
  enough (suc m) (suc n) (b ∷ a) g h =
      same_and (piece_at k versions grease (b ∷ a)) (pieces_within m k versions grease) (pieces_within n k versions grease)
      (λ p z e. let less = (piece_ends k versions grease (b ∷ a) p z e).1 in enough m n z (omega (arith, less)) (omega (arith, less)))

  -- ---- the pieces of bytes: none; the first packet and the pieces of the rest; or the fault

  pub pieces_none : (a : List ℕ) → length a ≡ 0 → pieces_of k versions grease a ≡ []
  unfolding pieces_of
  pieces_none [] none = refl
  pieces_none (b ∷ a) none = absurd (omega arith)

  pub pieces_first : (a : List ℕ) (p : Piece) (z : List ℕ) → 0 < length a → piece_at k versions grease a ≡ Ok (p, z)
      → pieces_of k versions grease a ≡ Ok p ∷ pieces_of k versions grease z
  unfolding pieces_of
  pieces_first [] p z some e = absurd (omega arith)
  pieces_first (b ∷ a) p z some e =
      let less = (piece_ends k versions grease (b ∷ a) p z e).1 in
      ap (λ v. pieces_and v (pieces_within (length a) k versions grease)) e
      ∙ ap (λ (items : List DatagramItem). Ok p ∷ items) (enough (length a) (length z) z (omega (arith, less)) (omega arith))

  pub pieces_fault : (a : List ℕ) (e : PacketDecodeError) → 0 < length a → piece_at k versions grease a ≡ Err e → pieces_of k versions grease a ≡ Err e ∷ []
  unfolding pieces_of
  pieces_fault [] e some is = absurd (omega arith)
  pieces_fault (b ∷ a) e some is = ap (λ v. pieces_and v (pieces_within (length a) k versions grease)) is

  -- ---- they are what the grammar says, and it allows no others

  item_meets : (a : List ℕ) (others : List ℕ → List DatagramItem) (v : Result (Piece × List ℕ) PacketDecodeError) → IsBytes a → 0 < length a → piece_at k versions grease a ≡ v
      → ((p : Piece) (z : List ℕ) → piece_at k versions grease a ≡ Ok (p, z) → Datagram k versions grease (others z) z)
      → Datagram k versions grease (pieces_and v others) a
  item_meets a others (Ok x) bytes some is rest = grammar.piece_and x.0 a x.1 (others x.1) (piece_takes k versions grease a x.0 x.1 bytes is) (rest x.0 x.1 is)
  item_meets a others (Err e) bytes some is rest = grammar.unreadable e a some (piece_none k versions grease a e bytes is)

  within_meets : (most : ℕ) (a : List ℕ) → IsBytes a → length a ≤ most → Datagram k versions grease (pieces_within most k versions grease a) a
  within_meets zero [] bytes fits = grammar.no_more
  within_meets zero (b ∷ a) bytes fits = absurd (omega arith)
  within_meets (suc most) [] bytes fits = grammar.no_more
  within_meets (suc most) (b ∷ a) bytes fits =
      item_meets (b ∷ a) (pieces_within most k versions grease) (piece_at k versions grease (b ∷ a)) bytes (omega arith) refl
      (λ p z e. let ends = piece_ends k versions grease (b ∷ a) p z e in within_meets most z (ends_bytes (b ∷ a) z ends.0 bytes) (omega (arith, ends.1)))

  pub pieces_meet : (a : List ℕ) → IsBytes a → Datagram k versions grease (pieces_of k versions grease a) a
  unfolding pieces_of
  pieces_meet a bytes = within_meets (length a) a bytes (omega arith)

  pub pieces_only : (items : List DatagramItem) (a : List ℕ) → IsBytes a → Datagram k versions grease items a → items ≡ pieces_of k versions grease a
  pieces_only _ _ bytes grammar.no_more = sym (pieces_none [] refl)
  pieces_only _ _ bytes (grammar.piece_and p a z others front behind) =
      let is = piece_again k versions grease a p z front in
      let ends = piece_ends k versions grease a p z is in
      ap (λ (items : List DatagramItem). Ok p ∷ items) (pieces_only others z (ends_bytes a z ends.0 bytes) behind)
      ∙ sym (pieces_first a p z (omega (arith, ends.1)) is)
  pieces_only _ _ bytes (grammar.unreadable e a some none) = sym (pieces_fault a e some (none_again k versions grease a e bytes none))

-- ---- of a function that gives this reading

module _ {A : Type 0} (view : A → Piece × List ℕ) (k : ℕ) (versions : List ℕ) (grease : Bool) (a : List ℕ) where
  pub gives_found : (r : Result A PacketDecodeError) → IsBytes a → IfOk r (λ x. piece_at k versions grease a ≡ Ok (view x))
      → IfOk r (λ x. PieceAt k versions grease (view x).0 a (view x).1)
  gives_found (Ok x) bytes e = piece_takes k versions grease a (view x).0 (view x).1 bytes e
  gives_found (Err f) bytes e = tt

  pub gives_only : (r : Result A PacketDecodeError) → IfOk r (λ x. piece_at k versions grease a ≡ Ok (view x))
      → IfErr r (λ f. (f ≡ OutOfMemory) ⊎ (piece_at k versions grease a ≡ Err f))
      → (p : Piece) (z : List ℕ) → PieceAt k versions grease p a z → MatchResult r (λ x. ((view x).0 ≡ p) × ((view x).1 ≡ z)) (λ f. f ≡ OutOfMemory)
  gives_only (Ok x) e none p z s =
      let is = piece_again k versions grease a p z s in
      (same_value (piece_at k versions grease a) (view x) (p, z) e is, same_rest (piece_at k versions grease a) (view x) (p, z) e is)
  gives_only (Err f) e (inl memory) p z s = memory
  gives_only (Err f) e (inr none) p z s = let is = piece_again k versions grease a p z s in cc

  pub gives_none : (r : Result A PacketDecodeError) → IsBytes a → IfErr r (λ f. (f ≡ OutOfMemory) ⊎ (piece_at k versions grease a ≡ Err f))
      → IfErr r (λ f. (f ≡ OutOfMemory) ⊎ NoPieceAt k versions grease a f)
  gives_none (Ok x) bytes e = tt
  gives_none (Err f) bytes (inl memory) = inl memory
  gives_none (Err f) bytes (inr none) = inr (piece_none k versions grease a f bytes none)
