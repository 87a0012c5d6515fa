-- Steps of a CRYPTO stream one behind the other, and what deeds give to the session.
use Rattle.std.proofs.Common.{◌≡◌, ℕ, suc, List, [], ◌∷◌, ◌++◌, length, drop, refl, ap, sym, ◌∙◌, subst, Bool, true, false, if◌then◌else◌, append_assoc, arith}
use Rattle.std.specs.Prelude.{◌==◌}
use Rattle.std.proofs.lemmas.Bool.Decides.{nat_tests}
use Rattle.std.proofs.Math.Seq.{drop-append_seam}
use Rattle.qc_assembler.specs.Assembly.{Assembly, advanced, inserted, nothing, run}
use Rattle.qc_assembler.specs.Reads.{AreReads, IsRead, ReadsWhatCame, after, after_step, all_came, all_read}
use Rattle.qc_assembler.specs.Reads as reads
use Rattle.qc_assembler.proofs.ReadLaw.{reads_what_came}
use Rattle.qc_base.specs.declared.side.SpaceId.{SpaceId}
use Rattle.qc_base.specs.declared.side.SpaceId.TheVariants.{Initial, Handshake, «Data»}
use Rattle.qc_state.specs.declared.deeds.Did.{Did}
use Rattle.qc_state.specs.declared.deeds.Did.TheVariants as did
use Rattle.qc_state.specs.declared.deeds.Layer.TheVariants as layer
use Rattle.qc_frame.specs.Frame.{FrameValue}
use Rattle.qc_state.specs.declared.form.Form.{Form}
use Rattle.qc_state.specs.declared.lower.Lower.{Lower}
use Rattle.qc_state.specs.Flight.{flown_packet}
use Rattle.qc_state.specs.Forms.{number_space}
use Rattle.qc_state.specs.Lower.{bytes_came, front_run, packet_flown, ready_bytes, session_read, stream_of}
use Rattle.qc_state.specs.Spaces.{is_space}
use Rattle.qc_laws.specs.StreamLaws.{is_of, session_bytes}

-- ---- steps

pub reads_append : (xs ys : List reads.Step) (a : Assembly) → AreReads xs a → AreReads ys (after xs a) → AreReads (xs ++ ys) a
unfolding AreReads after
reads_append [] ys a g h = h
reads_append (x ∷ xs) ys a g h = (g.0, reads_append xs ys (after_step x a) g.1 h)

pub after_append : (xs ys : List reads.Step) (a : Assembly) → after (xs ++ ys) a ≡ after ys (after xs a)
unfolding after
after_append [] ys a = refl
after_append (x ∷ xs) ys a = after_append xs ys (after_step x a)

pub read_append : (xs ys : List reads.Step) → all_read (xs ++ ys) ≡ all_read xs ++ all_read ys
unfolding all_read
read_append [] ys = refl
read_append (reads.Came o bs ∷ xs) ys = read_append xs ys
read_append (reads.Read bs ∷ xs) ys = ap (λ (l : List ℕ). bs ++ l) (read_append xs ys) ∙ sym (append_assoc bs (all_read xs) (all_read ys))

-- the bytes that can be read in order are those that came first
front_by : (o : ℕ) (x : ℕ × ℕ) (xs : List (ℕ × ℕ)) (b : Bool) → (x.0 == o) ≡ b → xs ≡ run (suc o) (front_run (suc o) xs) ++ drop (length (front_run (suc o) xs)) xs →
    let bs : List ℕ = if b then x.1 ∷ front_run (suc o) xs else [] in x ∷ xs ≡ run o bs ++ drop (length bs) (x ∷ xs)
unfolding run
front_by o x xs true is rest = let here : x.0 ≡ o = grind (arith, nat_tests) in λ i. (here i, x.1) ∷ rest i
front_by o x xs false is rest = refl

pub front_is : (o : ℕ) (xs : List (ℕ × ℕ)) → xs ≡ run o (front_run o xs) ++ drop (length (front_run o xs)) xs
unfolding run
front_is o [] = refl
front_is o (x ∷ xs) = front_by o x xs (x.0 == o) refl (front_is (suc o) xs)

-- ---- deeds

-- whether the last packet that came is one of the space
abbrev pub last_of : SpaceId → (now : Bool) → List Did → Bool
last_of id now [] = now
last_of id now (did.Piece space number verdict ∷ ds) = last_of id (is_of id space) ds
last_of id now (_ ∷ ds) = last_of id now ds

pub last_append : (id : SpaceId) (now : Bool) (ds es : List Did) → last_of id now (ds ++ es) ≡ last_of id (last_of id now ds) es
last_append id now [] es = refl
last_append id now (did.Piece space number verdict ∷ ds) es = last_append id (is_of id space) ds es
last_append id now (did.Sealed space n epoch early fs ∷ ds) es = last_append id now ds es
last_append id now (did.Gave to body ∷ ds) es = last_append id now ds es
last_append id now (did.Rose life ∷ ds) es = last_append id now ds es
last_append id now (did.Lost why ∷ ds) es = last_append id now ds es
last_append id now (did.Quiet why ∷ ds) es = last_append id now ds es

pub bytes_append : (id : SpaceId) (now : Bool) (ds es : List Did) → session_bytes id now (ds ++ es) ≡ session_bytes id now ds ++ session_bytes id (last_of id now ds) es
bytes_append id now [] es = refl
bytes_append id now (did.Piece space number verdict ∷ ds) es = bytes_append id (is_of id space) ds es
bytes_append id now (did.Gave layer.Session body ∷ ds) es =
    let front : List ℕ = if now then body else [] in
    ap (λ (l : List ℕ). front ++ l) (bytes_append id now ds es) ∙ sym (append_assoc front (session_bytes id now ds) (session_bytes id (last_of id now ds) es))
bytes_append id now (did.Gave layer.Recovery body ∷ ds) es = bytes_append id now ds es
bytes_append id now (did.Gave layer.Life body ∷ ds) es = bytes_append id now ds es
bytes_append id now (did.Gave layer.Store body ∷ ds) es = bytes_append id now ds es
bytes_append id now (did.Gave layer.Ids body ∷ ds) es = bytes_append id now ds es
bytes_append id now (did.Gave layer.Streams body ∷ ds) es = bytes_append id now ds es
bytes_append id now (did.Sealed space n epoch early fs ∷ ds) es = bytes_append id now ds es
bytes_append id now (did.Rose life ∷ ds) es = bytes_append id now ds es
bytes_append id now (did.Lost why ∷ ds) es = bytes_append id now ds es
bytes_append id now (did.Quiet why ∷ ds) es = bytes_append id now ds es

-- ---- streams

pub is_same : (id : SpaceId) → is_space id id ≡ true
is_same Initial = refl
is_same Handshake = refl
is_same Data = refl

module _ {S : Type 0} where
  pub came_here : (id : SpaceId) (l : Lower S) (offset : ℕ) (body : List ℕ) → stream_of (bytes_came l id offset body) id ≡ inserted offset body (stream_of l id)
  unfolding stream_of bytes_came
  came_here Initial l offset body = refl
  came_here Handshake l offset body = refl
  came_here Data l offset body = refl

  pub came_apart : (id space : SpaceId) (l : Lower S) (offset : ℕ) (body : List ℕ) → is_space id space ≡ false → stream_of (bytes_came l space offset body) id ≡ stream_of l id
  unfolding stream_of bytes_came
  came_apart Initial Initial l offset body h = cc
  came_apart Initial Handshake l offset body h = refl
  came_apart Initial Data l offset body h = refl
  came_apart Handshake Initial l offset body h = refl
  came_apart Handshake Handshake l offset body h = cc
  came_apart Handshake Data l offset body h = refl
  came_apart Data Initial l offset body h = refl
  came_apart Data Handshake l offset body h = refl
  came_apart Data Data l offset body h = cc

  pub read_here : (id : SpaceId) (l : Lower S) (count : ℕ) (session : S) → stream_of (session_read l id count session) id ≡ advanced count (stream_of l id)
  unfolding stream_of session_read
  read_here Initial l count session = refl
  read_here Handshake l count session = refl
  read_here Data l count session = refl

  pub read_apart : (id space : SpaceId) (l : Lower S) (count : ℕ) (session : S) → is_space id space ≡ false → stream_of (session_read l space count session) id ≡ stream_of l id
  unfolding stream_of session_read
  read_apart Initial Initial l count session h = cc
  read_apart Initial Handshake l count session h = refl
  read_apart Initial Data l count session h = refl
  read_apart Handshake Initial l count session h = refl
  read_apart Handshake Handshake l count session h = cc
  read_apart Handshake Data l count session h = refl
  read_apart Data Initial l count session h = refl
  read_apart Data Handshake l count session h = refl
  read_apart Data Data l count session h = cc

  -- a packet that is sealed leaves them
  pub flown_stream : (id : SpaceId) (owed : Bool) (l : Lower S) (form : Form) (n time size : ℕ) (fs : List FrameValue) → stream_of (if owed then l else packet_flown l (number_space form) n (flown_packet time size fs)) id ≡ stream_of l id
  unfolding packet_flown stream_of
  flown_stream id true l form n time size fs = refl
  flown_stream id false l form n time size fs = refl

-- what is read are bytes that wait
pub ready_read : (w : Assembly) (bs : List ℕ) → bs ≡ ready_bytes w → IsRead (reads.Read bs) w
unfolding IsRead ready_bytes
ready_read w bs is = subst (λ (l : List ℕ). w.came ≡ run w.read l ++ drop (length l) w.came) (sym is) (front_is w.read w.came)

-- deeds behind the same ones
pub same_since : (ds es fs : List Did) → ds ++ es ≡ ds ++ fs → es ≡ fs
same_since ds es fs e = sym (drop-append_seam ds es) ∙ ap (λ (l : List Did). drop (length ds) l) e ∙ drop-append_seam ds fs

-- from a stream of which nothing came
pub front_of : (steps : List reads.Step) (w w' : Assembly) (given : List ℕ) → AreReads steps w → w' ≡ after steps w → given ≡ all_read steps → w ≡ nothing → all_came steps [] ≡ run 0 given ++ w'.came
unfolding ReadsWhatCame
front_of steps w w' given are leads is from =
    reads_what_came steps (subst (λ (x : Assembly). AreReads steps x) from are)
    ∙ ap (λ (l : List ℕ). run 0 l ++ (after steps nothing).came) (sym is) ∙ ap (λ (x : Assembly). run 0 given ++ (after steps x).came) (sym from) ∙ ap (λ (x : Assembly). run 0 given ++ x.came) (sym leads)
