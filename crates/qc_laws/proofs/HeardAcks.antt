-- Lists of recovery's steps, and what deeds give to recovery: one behind the other, and within a packet.
use Rattle.std.proofs.Common.{◌≡◌, ℕ, List, [], ◌∷◌, ◌++◌, refl, ap, sym, ◌∙◌, Bool, true, false, Some, if◌then◌else◌, append_assoc}
use Rattle.std.specs.Prelude.{◌==◌, ◌&&◌}
use Rattle.qc_base.specs.declared.side.SpaceId.{SpaceId}
use Rattle.qc_flight.specs.Packets.{Entry}
use Rattle.qc_flight.specs.declared.sent.SentPacket.{SentPacket}
use Rattle.qc_frame.specs.Frame.{FrameValue}
use Rattle.qc_frame.specs.FrameSpelling.{spelling}
use Rattle.qc_frame.specs.declared.frames.FrameOf.TheVariants as frames
use Rattle.qc_path.specs.declared.controller.Controller.{Ghosts as Control}
use Rattle.qc_recovery.specs.Losses.{rank}
use Rattle.qc_recovery.specs.Runs.{in_space}
use Rattle.qc_state.specs.declared.deeds.Did.{Did}
use Rattle.qc_state.specs.declared.deeds.Did.TheVariants as did
use Rattle.qc_state.specs.declared.deeds.Layer.TheVariants as layer
use Rattle.qc_state.specs.declared.deeds.Verdict.{Verdict}
use Rattle.qc_state.specs.declared.deeds.Verdict.TheVariants as verdict
use Rattle.qc_state.specs.Spaces.{is_space}
use Rattle.qc_laws.specs.PieceLaws.{given_in, pieces_in}
use Rattle.qc_laws.specs.RecoveryLaws.{AllMay, AreFlown, Capped, Dropped, Fired, Kept, Probed, RecoveryStep, Sent, Settled, Spent, Told, acks_in, given_to_recovery, is_admitted, sent_in, step_after, steps_after}
use Rattle.qc_laws.specs.StreamLaws.{is_of}

-- ---- lists of steps

none_by : (es : List Entry) (b : Bool) → es ≡ [] → (if b then es else []) ≡ []
none_by es true is = is
none_by es false is = refl

pub none_in : (id space : SpaceId) → in_space id space [] ≡ []
none_in id space = none_by [] (rank space == rank id) refl

module _ {C : Type 0} where
  pub leads_append : (xs ys : List (RecoveryStep C)) (k : Kept C) → steps_after (xs ++ ys) k ≡ steps_after ys (steps_after xs k)
  leads_append [] ys k = refl
  leads_append (x ∷ xs) ys k = leads_append xs ys (step_after x k)

  pub may_append : (m : Control C) (xs ys : List (RecoveryStep C)) (k : Kept C) → AllMay m xs k → AllMay m ys (steps_after xs k) → AllMay m (xs ++ ys) k
  may_append m [] ys k a b = b
  may_append m (x ∷ xs) ys k a b = (a.0, may_append m xs ys (step_after x k) a.1 b)

  pub sent_append : (id : SpaceId) (xs ys : List (RecoveryStep C)) → sent_in id (xs ++ ys) ≡ sent_in id xs ++ sent_in id ys
  sent_append id [] ys = refl
  sent_append id (Sent space number packet ∷ xs) ys =
      let front : List Entry = in_space id space ((number, packet) ∷ []) in
      ap (λ (es : List Entry). front ++ es) (sent_append id xs ys) ∙ sym (append_assoc front (sent_in id xs) (sent_in id ys))
  sent_append id (Settled space ack after ∷ xs) ys = sent_append id xs ys
  sent_append id (Fired after ∷ xs) ys = sent_append id xs ys
  sent_append id (Dropped space ∷ xs) ys = sent_append id xs ys
  sent_append id (Spent tokens ∷ xs) ys = sent_append id xs ys
  sent_append id (Told control ∷ xs) ys = sent_append id xs ys
  sent_append id (Capped size ∷ xs) ys = sent_append id xs ys
  sent_append id (Probed time n ∷ xs) ys = sent_append id xs ys

  acks_append : (id : SpaceId) (xs ys : List (RecoveryStep C)) → acks_in id (xs ++ ys) ≡ acks_in id xs ++ acks_in id ys
  acks_append id [] ys = refl
  acks_append id (Settled space ack after ∷ xs) ys =
      let front : List (List ℕ) = if is_space id space then spelling (frames.Ack ack) ∷ [] else [] in
      ap (λ (l : List (List ℕ)). front ++ l) (acks_append id xs ys) ∙ sym (append_assoc front (acks_in id xs) (acks_in id ys))
  acks_append id (Sent space number packet ∷ xs) ys = acks_append id xs ys
  acks_append id (Fired after ∷ xs) ys = acks_append id xs ys
  acks_append id (Dropped space ∷ xs) ys = acks_append id xs ys
  acks_append id (Spent tokens ∷ xs) ys = acks_append id xs ys
  acks_append id (Told control ∷ xs) ys = acks_append id xs ys
  acks_append id (Capped size ∷ xs) ys = acks_append id xs ys
  acks_append id (Probed time n ∷ xs) ys = acks_append id xs ys

-- the packets in flight of deeds that come one after the other
pub flown_append : (id : SpaceId) (ds es : List Did) (xs ys : List Entry) → AreFlown id ds xs → AreFlown id es ys → AreFlown id (ds ++ es) (xs ++ ys)
flown_append id [] es xs ys a b = rw a b
flown_append id (did.Sealed space n epoch early fs ∷ ds) es xs ys a b =
    (a.0, a.1 ++ ys, ap (λ (zs : List Entry). zs ++ ys) a.2 ∙ append_assoc (in_space id space a.0) a.1 ys, a.3, flown_append id ds es a.1 ys a.4 b)
flown_append id (did.Piece space number v ∷ ds) es xs ys a b = flown_append id ds es xs ys a b
flown_append id (did.Gave layer body ∷ ds) es xs ys a b = flown_append id ds es xs ys a b
flown_append id (did.Rose life ∷ ds) es xs ys a b = flown_append id ds es xs ys a b
flown_append id (did.Lost why ∷ ds) es xs ys a b = flown_append id ds es xs ys a b
flown_append id (did.Quiet why ∷ ds) es xs ys a b = flown_append id ds es xs ys a b

-- ---- what deeds give to recovery

-- all of it, in order
abbrev pub to_recovery : List Did → List (List ℕ)
to_recovery [] = []
to_recovery (did.Gave layer.Recovery body ∷ ds) = body ∷ to_recovery ds
to_recovery (_ ∷ ds) = to_recovery ds

to_append : (ds es : List Did) → to_recovery (ds ++ es) ≡ to_recovery ds ++ to_recovery es
to_append [] es = refl
to_append (did.Gave layer.Recovery body ∷ ds) es = ap (λ (l : List (List ℕ)). body ∷ l) (to_append ds es)
to_append (did.Gave layer.Session body ∷ ds) es = to_append ds es
to_append (did.Gave layer.Life body ∷ ds) es = to_append ds es
to_append (did.Gave layer.Store body ∷ ds) es = to_append ds es
to_append (did.Gave layer.Ids body ∷ ds) es = to_append ds es
to_append (did.Gave layer.Streams body ∷ ds) es = to_append ds es
to_append (did.Piece space number v ∷ ds) es = to_append ds es
to_append (did.Sealed space n epoch early fs ∷ ds) es = to_append ds es
to_append (did.Rose life ∷ ds) es = to_append ds es
to_append (did.Lost why ∷ ds) es = to_append ds es
to_append (did.Quiet why ∷ ds) es = to_append ds es

-- nothing, where they give nothing to any layer
pub given_none : (ds : List Did) → given_in ds ≡ [] → to_recovery ds ≡ []
given_none [] h = refl
given_none (did.Gave to body ∷ ds) h = cc
given_none (did.Piece space number v ∷ ds) h = given_none ds h
given_none (did.Sealed space n epoch early fs ∷ ds) h = given_none ds h
given_none (did.Rose life ∷ ds) h = given_none ds h
given_none (did.Lost why ∷ ds) h = given_none ds h
given_none (did.Quiet why ∷ ds) h = given_none ds h

-- whether the last packet that came is an admitted one of the space
abbrev last_admitted : SpaceId → (now : Bool) → List Did → Bool
last_admitted id now [] = now
last_admitted id now (did.Piece space number v ∷ ds) = last_admitted id (is_admitted v && is_of id space) ds
last_admitted id now (_ ∷ ds) = last_admitted id now ds

given_append : (id : SpaceId) (now : Bool) (ds es : List Did) → given_to_recovery id now (ds ++ es) ≡ given_to_recovery id now ds ++ given_to_recovery id (last_admitted id now ds) es
given_append id now [] es = refl
given_append id now (did.Gave layer.Recovery body ∷ ds) es =
    let front : List (List ℕ) = if now then body ∷ [] else [] in
    ap (λ (l : List (List ℕ)). front ++ l) (given_append id now ds es) ∙ sym (append_assoc front (given_to_recovery id now ds) (given_to_recovery id (last_admitted id now ds) es))
given_append id now (did.Gave layer.Session body ∷ ds) es = given_append id now ds es
given_append id now (did.Gave layer.Life body ∷ ds) es = given_append id now ds es
given_append id now (did.Gave layer.Store body ∷ ds) es = given_append id now ds es
given_append id now (did.Gave layer.Ids body ∷ ds) es = given_append id now ds es
given_append id now (did.Gave layer.Streams body ∷ ds) es = given_append id now ds es
given_append id now (did.Piece space number v ∷ ds) es = given_append id (is_admitted v && is_of id space) ds es
given_append id now (did.Sealed space n epoch early fs ∷ ds) es = given_append id now ds es
given_append id now (did.Rose life ∷ ds) es = given_append id now ds es
given_append id now (did.Lost why ∷ ds) es = given_append id now ds es
given_append id now (did.Quiet why ∷ ds) es = given_append id now ds es

pub none_here : (here : Bool) (l : List (List ℕ)) → l ≡ [] → (if here then l else []) ≡ []
none_here true l none = none
none_here false l none = refl

-- where they tell of no packet, all of it or nothing
front_of : (now : Bool) (body : List ℕ) (rest all : List (List ℕ)) → rest ≡ (if now then all else []) → (if now then body ∷ [] else []) ++ rest ≡ (if now then body ∷ all else [])
front_of true body rest all e = ap (λ (l : List (List ℕ)). body ∷ l) e
front_of false body rest all e = e

given_within : (id : SpaceId) (now : Bool) (ds : List Did) → pieces_in ds ≡ [] → given_to_recovery id now ds ≡ (if now then to_recovery ds else [])
given_within id now [] h = sym (none_here now [] refl)
given_within id now (did.Piece space number v ∷ ds) h = cc
given_within id now (did.Gave layer.Recovery body ∷ ds) h = front_of now body (given_to_recovery id now ds) (to_recovery ds) (given_within id now ds h)
given_within id now (did.Gave layer.Session body ∷ ds) h = given_within id now ds h
given_within id now (did.Gave layer.Life body ∷ ds) h = given_within id now ds h
given_within id now (did.Gave layer.Store body ∷ ds) h = given_within id now ds h
given_within id now (did.Gave layer.Ids body ∷ ds) h = given_within id now ds h
given_within id now (did.Gave layer.Streams body ∷ ds) h = given_within id now ds h
given_within id now (did.Sealed space n epoch early fs ∷ ds) h = given_within id now ds h
given_within id now (did.Rose life ∷ ds) h = given_within id now ds h
given_within id now (did.Lost why ∷ ds) h = given_within id now ds h
given_within id now (did.Quiet why ∷ ds) h = given_within id now ds h

-- what a packet gives that isn't admitted
by_verdict : (v : Verdict) (here : Bool) (l : List (List ℕ)) → (is_admitted v ≡ false → l ≡ []) → (if here then l else []) ≡ (if is_admitted v && here then l else [])
by_verdict verdict.Admitted here l none = refl
by_verdict _ true l none = none refl
by_verdict _ false l none = refl

joined_by : (here : Bool) (l k : List (List ℕ)) → (if here then l else []) ++ (if here then k else []) ≡ (if here then l ++ k else [])
joined_by true l k = refl
joined_by false l k = refl

-- ---- ACKs by which steps settle, and what deeds give to recovery

-- behind deeds that say which packet it is
abbrev pub Hears : {C : Type 0} → List Did → List (RecoveryStep C) → Type 0
Hears ds xs = (id : SpaceId) (now : Bool) → acks_in id xs ≡ given_to_recovery id now ds

-- within a packet of a space
abbrev pub HearsIn : {C : Type 0} → SpaceId → List Did → List (RecoveryStep C) → Type 0
HearsIn space ds xs = (id : SpaceId) → acks_in id xs ≡ (if is_space id space then to_recovery ds else [])

module _ {C : Type 0} where
  pub hears_next : (ds es : List Did) (xs ys : List (RecoveryStep C)) → Hears ds xs → Hears es ys → Hears (ds ++ es) (xs ++ ys)
  hears_next ds es xs ys g h = λ id now.
      acks_append id xs ys ∙ ap (λ (l : List (List ℕ)). l ++ acks_in id ys) (g id now) ∙ ap (λ (l : List (List ℕ)). given_to_recovery id now ds ++ l) (h id (last_admitted id now ds))
      ∙ sym (given_append id now ds es)

  pub hears_in_next : (space : SpaceId) (ds es : List Did) (xs ys : List (RecoveryStep C)) → HearsIn space ds xs → HearsIn space es ys → HearsIn space (ds ++ es) (xs ++ ys)
  hears_in_next space ds es xs ys g h = λ id.
      let here : Bool = is_space id space in
      acks_append id xs ys ∙ ap (λ (l : List (List ℕ)). l ++ acks_in id ys) (g id) ∙ ap (λ (l : List (List ℕ)). (if here then to_recovery ds else []) ++ l) (h id)
      ∙ joined_by here (to_recovery ds) (to_recovery es) ∙ ap (λ (l : List (List ℕ)). if here then l else []) (sym (to_append ds es))

  -- a packet tells of itself first, and gives nothing where it isn't admitted
  pub hears_packet : (space : SpaceId) (n : ℕ) (v : Verdict) (since others : List Did) (xs : List (RecoveryStep C)) → since ≡ did.Piece (Some space) (Some n) v ∷ others → pieces_in others ≡ [] → (is_admitted v ≡ false → to_recovery others ≡ []) →
      HearsIn space since xs → Hears since xs
  hears_packet space n v since others xs first one none h = λ id now.
      let here : Bool = is_space id space in
      h id ∙ ap (λ (ds : List Did). if here then to_recovery ds else []) first ∙ by_verdict v here (to_recovery others) none ∙ sym (given_within id (is_admitted v && here) others one)
      ∙ ap (λ (ds : List Did). given_to_recovery id now ds) (sym first)

-- a packet that is sealed settles nothing
pub sealed_hears : (C : Type 0) (owed : Bool) (space : SpaceId) (n epoch : ℕ) (early : Bool) (fs : List FrameValue) (packet : SentPacket) → Hears {C = C} (did.Sealed space n epoch early fs ∷ []) (if owed then [] else Sent space n packet ∷ [])
sealed_hears C true space n epoch early fs packet = λ id now. refl
sealed_hears C false space n epoch early fs packet = λ id now. refl
