-- What was read of a stream in order are the first of the bytes that came on it: what a step leaves of that on a receiving side
use Rattle.std.proofs.Common.{◌≡◌, ◌∙◌, ℕ, zero, suc, ◌+◌, ◌-◌, ◌^◌, ◌<◌, ◌≤◌, ◌==◌, Bool, true, false, cond, not, ◌&&◌, ◌||◌, nat_lt, List, [], ◌∷◌, ◌++◌, length, drop, Option, None, Some, is_some, inl, inr, ap, sym, subst, arith, refl, length-append, length-drop}
use Rattle.std.proofs.lemmas.Bool.{cases_lt, lt-ltb, le-ltb, or_from, or_left}
use Rattle.std.proofs.Math.Seq.{drop-length}
use Rattle.qc_assembler.specs.Assembly.{Assembly, add, advanced, among, inserted, nothing, put, run, taken, was_read}
use Rattle.qc_assembler.proofs.Adding.{add_none, add_past_run, add_within}
use Rattle.qc_assembler.proofs.Segments.{inserted_read, inserted_unread, skip_step}
use Rattle.qc_base.specs.declared.varint.VarInt.{VarInt}
use Rattle.qc_recv.specs.declared.recv.Chunk.{Chunk}
use Rattle.qc_recv.specs.declared.fault.ReadableError.TheVariants.{ClosedStream as SideClosed, IllegalOrderedRead as SideUnordered}
use Rattle.qc_recv.specs.declared.recv.Recv.{Recv}
use Rattle.qc_recv.specs.Receiving.{bytes_taken, chunk_given, counted, end_taken, given, is_closed, is_ended, keeps, new_receiving, opened, read_refusal, stream_taken, GivesChunk}

-- ---- offsets below a bound

-- every offset lies below a bound
unfoldable pub AllBelow : ℕ → List (ℕ × ℕ) → Type 0
AllBelow n [] = Unit {0}
AllBelow n (x ∷ v) = (x.0 < n) × AllBelow n v

below_put : (n o b : ℕ) (v : List (ℕ × ℕ)) → o < n → AllBelow n v → AllBelow n (put o b v)
unfolding AllBelow put
below_put n o b [] less h = (less, tt)
below_put n o b (x ∷ v) less h = by (nat_lt o x.0) (o == x.0) (below_put n o b v less h.1)
  where
    by : (c d : Bool) → AllBelow n (put o b v) → AllBelow n (cond c ((o, b) ∷ x ∷ v) (cond d (x ∷ v) (x ∷ put o b v)))
    by true d then = (less, h)
    by false true then = h
    by false false then = (h.0, then)

below_add : (n o : ℕ) (bs : List ℕ) (v : List (ℕ × ℕ)) → o + length bs ≤ n → AllBelow n v → AllBelow n (add o bs v)
unfolding add
below_add n o [] v fits h = h
below_add n o (b ∷ bs) v fits h = below_add n (suc o) bs (put o b v) (omega (arith, fits)) (below_put n o b v (omega (arith, fits)) h)

below_drop : (n k : ℕ) (v : List (ℕ × ℕ)) → AllBelow n v → AllBelow n (drop k v)
unfolding AllBelow
below_drop n zero v h = h
below_drop n (suc k) [] h = tt
below_drop n (suc k) (x ∷ v) h = below_drop n k v h.1

-- bytes in a row that do end there or before
row_below : (n s : ℕ) (bs : List ℕ) (v : List (ℕ × ℕ)) → s ≤ n → AllBelow n (run s bs ++ v) → s + length bs ≤ n
unfolding AllBelow run
row_below n s [] v up h = omega (arith, up)
row_below n s (b ∷ bs) v up h = let less : s < n = h.0 in let next = row_below n (suc s) bs v (omega (arith, less)) h.1 in omega (arith, next)

-- ---- an assembly that was read in order only

abbrev pub in_order : ℕ → List (ℕ × ℕ) → Assembly
in_order n v = record { read = n; ahead = []; came = v }

below_read : (i n : ℕ) (v : List (ℕ × ℕ)) → i < n → was_read i (in_order n v) ≡ true
unfolding was_read among
below_read i n v less = or_left (nat_lt i n) false (lt-ltb i n less)

beyond_read : (i n : ℕ) (v : List (ℕ × ℕ)) → n ≤ i → was_read i (in_order n v) ≡ false
unfolding was_read among
beyond_read i n v more = or_from (nat_lt i n) false (le-ltb i n more) refl

-- What bytes that come leave of it, and of all that came
record Came (o : ℕ) (bs p : List ℕ) (v : List (ℕ × ℕ)) : Type 0 where
  rest : List (ℕ × ℕ)
  kept : inserted o bs (in_order (length p) v) ≡ in_order (length p) rest
  all : add o bs (run 0 p ++ v) ≡ run 0 p ++ rest
  below : (n : ℕ) → o + length bs ≤ n → AllBelow n v → AllBelow n rest

-- they are kept but for those that were read
came : (o : ℕ) (bs p : List ℕ) (v : List (ℕ × ℕ)) → Came o bs p v
came o bs p v = elim (cases_lt (o + length bs) (length p)) [
  | inl less ↦ record {
    rest = v;
    kept = inserted_read o bs (in_order (length p) v) (λ i low high. below_read i (length p) v (omega arith));
    all = add_within o 0 (length bs) bs p v (omega arith) (omega arith) (omega arith)
        ∙ ap (λ (l : List ℕ). add (o + length bs) l (run 0 p ++ v)) (drop-length bs)
        ∙ add_none (o + length bs) [] (run 0 p ++ v) refl;
    below = λ n fits h. h;
  }
  | inr more ↦ elim (cases_lt o (length p)) [
    | inl front ↦
        let n : o + (length p - o) ≡ length p = omega arith in
        let low : length p - o ≤ length bs = omega arith in
        let long : length (drop (length p - o) bs) ≡ length bs - (length p - o) = length-drop (length p - o) bs in record {
          rest = add (length p) (drop (length p - o) bs) v;
          kept = skip_step o (length p - o) bs (in_order (length p) v) low (λ i from to. below_read i (length p) v (omega arith))
              ∙ ap (λ (i : ℕ). inserted i (drop (length p - o) bs) (in_order (length p) v)) n
              ∙ inserted_unread (length p) (drop (length p - o) bs) (in_order (length p) v) (λ i from to. beyond_read i (length p) v from);
          all = add_within o 0 (length p - o) bs p v (omega arith) (omega arith) low
              ∙ ap (λ (i : ℕ). add i (drop (length p - o) bs) (run 0 p ++ v)) n
              ∙ add_past_run 0 (length p) p (drop (length p - o) bs) v (omega arith);
          below = λ n fits h. below_add n (length p) (drop (length p - o) bs) v (omega (arith, fits, long)) h;
        }
    | inr back ↦ record {
      rest = add o bs v;
      kept = inserted_unread o bs (in_order (length p) v) (λ i low high. beyond_read i (length p) v (omega arith));
      all = add_past_run 0 o p bs v (omega arith);
      below = λ n fits h. below_add n o bs v fits h;
    }
  ]
]

-- bytes that come leave what was read the first of all that came
pub prefix_came : (o : ℕ) (bs p : List ℕ) (v : List (ℕ × ℕ)) → (w : List (ℕ × ℕ)) × (add o bs (run 0 p ++ v) ≡ run 0 p ++ w)
prefix_came o bs p v = let c = came o bs p v in (c.rest, c.all)

-- and so does a read
pub run_append : (s n : ℕ) (p q : List ℕ) (v : List (ℕ × ℕ)) → n ≡ s + length p → run s p ++ (run n q ++ v) ≡ run s (p ++ q) ++ v
unfolding run
run_append s n [] q v e = let here : n ≡ s = omega (arith, e) in ap (λ (i : ℕ). run i q ++ v) here
run_append s n (x ∷ p) q v e = ap (λ (w : List (ℕ × ℕ)). (s, x) ∷ w) (run_append (suc s) n p q v (omega (arith, e)))

-- ---- what holds of a receiving side that may give more bytes

-- whether it may: it is neither stopped nor reset, and its end wasn't told
abbrev pub is_live : Recv → Bool
is_live r = keeps r && not r.told

-- What was read and what waits are all that came, where only ordered reads were made
pub record Holding (came : List (ℕ × ℕ)) (read : List ℕ) (a : Assembly) (n : ℕ) (unordered : Bool) : Type 0 where
  pub rest : List (ℕ × ℕ)
  pub all : came ≡ run 0 read ++ rest
  pub kept : a ≡ in_order (length read) rest
  pub count : n ≡ length read
  pub order : unordered ≡ false
  pub below : AllBelow (2 ^ 62) rest
  pub few : length read ≤ 2 ^ 62

-- the same of a side
abbrev pub SideHolds : List (ℕ × ℕ) → List ℕ → Recv → Type 0
SideHolds came read r = Holding came read r.assembler r.read r.unordered

-- nothing came on a fresh side
pub fresh_holds : (window : ℕ) → SideHolds [] [] (new_receiving window)
unfolding new_receiving nothing run AllBelow
fresh_holds window = record { rest = []; all = refl; kept = refl; count = refl; order = refl; below = tt; few = omega arith }

-- what is live
record Live (r : Recv) : Type 0 where
  keeps : keeps r ≡ true
  stopped : is_some r.stopped ≡ false
  reset : is_some r.reset ≡ false
  told : r.told ≡ false

live_parts : (r : Recv) → is_live r ≡ true → Live r
unfolding keeps
live_parts r is =
    let parts = by (is_some r.stopped) (is_some r.reset) r.told is in
    record { keeps = parts.0; stopped = parts.1; reset = parts.2; told = parts.3 }
  where
    by : (a b c : Bool) → (not (a || b) && not c) ≡ true → (not (a || b) ≡ true) × (a ≡ false) × (b ≡ false) × (c ≡ false)
    by true b c is = absurd (cc)
    by false true c is = absurd (cc)
    by false false true is = absurd (cc)
    by false false false is = (refl, refl, refl, refl)

pub not_told : (r : Recv) → r.told ≡ true → is_live r ≡ true → ⊥
not_told r told is = let parts = live_parts r is in cc

pub not_reset : (r : Recv) → is_some r.reset ≡ true → is_live r ≡ true → ⊥
not_reset r reset is = let parts = live_parts r is in cc

pub not_stopped : (r : Recv) → is_some r.stopped ≡ true → is_live r ≡ true → ⊥
not_stopped r stopped is = let parts = live_parts r is in cc

-- ---- a frame comes

-- a side that is live takes it
pub live_taken : (r : Recv) → is_live r ≡ true → (is_ended r ≡ false) × ((is_ended r || is_some r.reset) ≡ false)
unfolding is_ended
live_taken r is = let parts = live_parts r is in by r.told (is_some r.stopped) (is_some r.size) (is_some r.reset) parts.told parts.stopped parts.reset
  where
    by : (a b c d : Bool) → a ≡ false → b ≡ false → d ≡ false → ((a || (b && c)) ≡ false) × (((a || (b && c)) || d) ≡ false)
    by true b c d x y z = absurd (cc)
    by false true c d x y z = absurd (cc)
    by false false c true x y z = absurd (cc)
    by false false c false x y z = (refl, refl)

pub live_same : (o : ℕ) (bs : List ℕ) (last : Bool) (r : Recv) → is_live (stream_taken o bs last r) ≡ is_live r
unfolding stream_taken bytes_taken end_taken keeps
live_same o bs last r = by (is_ended r || is_some r.reset) (keeps r)
  where
    by : (b c : Bool) → is_live (cond b r (end_taken (o + length bs) last (cond c (record r { assembler = inserted o bs r.assembler }) r))) ≡ is_live r
    by true c = refl
    by false true = refl
    by false false = refl

-- what it then has
pub taken_holds : (o : ℕ) (bs : List ℕ) (last : Bool) (all : List (ℕ × ℕ)) (read : List ℕ) (r : Recv) → is_live r ≡ true
    → o + length bs < 2 ^ 62 → SideHolds all read r → SideHolds (add o bs all) read (stream_taken o bs last r)
unfolding stream_taken bytes_taken end_taken
taken_holds o bs last all read r live fits h = by (is_ended r || is_some r.reset) (keeps r) (live_taken r live).1 (live_parts r live).keeps
  where
    more : Came o bs read h.rest
    more = came o bs read h.rest

    by : (b c : Bool) → b ≡ false → c ≡ true
        → SideHolds (add o bs all) read (cond b r (end_taken (o + length bs) last (cond c (record r { assembler = inserted o bs r.assembler }) r)))
    by true c x y = absurd (cc)
    by false false x y = absurd (cc)
    by false true x y = record {
      rest = more.rest;
      all = ap (λ (w : List (ℕ × ℕ)). add o bs w) h.all ∙ more.all;
      kept = ap (λ (a : Assembly). inserted o bs a) h.kept ∙ more.kept;
      count = h.count;
      order = h.order;
      below = more.below (2 ^ 62) (omega (arith, fits)) h.below;
      few = h.few;
    }

-- ---- a read gives a chunk

-- its bytes are the next ones
chunk_next : (most : ℕ) (c : Chunk) (all : List (ℕ × ℕ)) (read : List ℕ) (r : Recv) → (h : SideHolds all read r) → GivesChunk most (opened true r) c
    → h.rest ≡ run (length read) c.bytes ++ drop (length c.bytes) h.rest
unfolding opened
chunk_next most c all read r h gives =
    let place : c.offset ≡ length read = gives.place (or_from r.unordered false h.order refl) ∙ ap (λ (a : Assembly). a.read) h.kept in
    ap (λ (a : Assembly). a.came) (sym h.kept) ∙ gives.first
    ∙ ap (λ (v : List (ℕ × ℕ)). run c.offset c.bytes ++ drop (length c.bytes) v) (ap (λ (a : Assembly). a.came) h.kept)
    ∙ ap (λ (o : ℕ). run o c.bytes ++ drop (length c.bytes) h.rest) place

pub chunk_prefix : (most : ℕ) (c : Chunk) (all : List (ℕ × ℕ)) (read : List ℕ) (r : Recv) → (h : SideHolds all read r) → GivesChunk most (opened true r) c
    → all ≡ run 0 (read ++ c.bytes) ++ drop (length c.bytes) h.rest
chunk_prefix most c all read r h gives =
    h.all ∙ ap (λ (v : List (ℕ × ℕ)). run 0 read ++ v) (chunk_next most c all read r h gives)
    ∙ run_append 0 (length read) read c.bytes (drop (length c.bytes) h.rest) (omega arith)

pub chunk_holds : (most : ℕ) (c : Chunk) (all : List (ℕ × ℕ)) (read : List ℕ) (r : Recv) → SideHolds all read r → GivesChunk most (opened true r) c
    → SideHolds all (read ++ c.bytes) (chunk_given c.offset (length c.bytes) (opened true r))
unfolding chunk_given given opened counted advanced
chunk_holds most c all read r h gives =
    let ordered : (r.unordered || false) ≡ false = or_from r.unordered false h.order refl in
    let fits : length read + length c.bytes ≤ 2 ^ 62 =
    row_below (2 ^ 62) (length read) c.bytes (drop (length c.bytes) h.rest) h.few
    (subst (λ (v : List (ℕ × ℕ)). AllBelow (2 ^ 62) v) (chunk_next most c all read r h gives) h.below) in
    let long : length (read ++ c.bytes) ≡ length read + length c.bytes = length-append read c.bytes in record {
      rest = drop (length c.bytes) h.rest;
      all = chunk_prefix most c all read r h gives;
      kept = ap (λ (b : Bool). cond b (taken c.offset (length c.bytes) r.assembler) (advanced (length c.bytes) r.assembler)) ordered
          ∙ ap (λ (a : Assembly). advanced (length c.bytes) a) h.kept ∙ ap (λ (n : ℕ). in_order n (drop (length c.bytes) h.rest)) (sym long);
      count = omega (arith, h.count, long, fits);
      order = ordered;
      below = below_drop (2 ^ 62) (length c.bytes) h.rest h.below;
      few = omega (arith, long, fits);
    }

-- a side that answers a read with something is live
pub open_live : (ordered : Bool) (r : Recv) → read_refusal ordered r ≡ None → r.reset ≡ None → is_live r ≡ true
unfolding read_refusal is_closed keeps
open_live ordered r can none = by r.told (is_some r.stopped) (is_some r.reset) (ap (λ (o : Option VarInt). is_some o) none) can
  where
    by : (a b c : Bool) → c ≡ false → cond (a || b) (Some SideClosed) (cond (ordered && r.unordered) (Some SideUnordered) None) ≡ None
        → (not (b || c) && not a) ≡ true
    by true b c x y = absurd (cc)
    by false true c x y = absurd (cc)
    by false false true x y = absurd (cc)
    by false false false x y = refl
