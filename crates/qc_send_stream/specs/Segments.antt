-- How the bytes are kept: segments, each under the offset where it ends
use Rattle.std.specs.Prelude.{◌≡◌, ℕ, ◌+◌, ◌-◌, ◌<◌, ◌≤◌, Bool, true, false, ◌⊎◌, ◌==◌, ◌&&◌, ◌||◌, nat_lt, nat_le, if◌then◌else◌, List, [], ◌∷◌, ◌++◌, length, take, drop, Option, None, Some}
use Rattle.qc_send_stream.specs.declared.segments.Segment.{Segment}
use Rattle.qc_send_stream.specs.Buffer.{Kept, Buffer, row}

-- where a segment begins
unfoldable pub begin : ℕ × Segment → ℕ
begin e = e.0 - length e.1.bytes

-- the bytes of all segments
unfoldable pub flat : List (ℕ × Segment) → List Kept
flat [] = []
flat (e ∷ es) = row e.1.lost (begin e) e.1.bytes ++ flat es

-- segments that hold bytes, ascend, don't overlap and lie at lo or above
unfoldable pub Apart : ℕ → List (ℕ × Segment) → Type 0
Apart lo [] = Unit {0}
Apart lo (e ∷ es) = (0 < length e.1.bytes) × (lo + length e.1.bytes ≤ e.0) × Apart e.0 es

-- segments that end at n or before
unfoldable pub EndBy : ℕ → List (ℕ × Segment) → Type 0
EndBy n [] = Unit {0}
EndBy n (e ∷ es) = (e.0 ≤ n) × EndBy n es

-- no segment has bytes on both sides of the offset o
unfoldable pub CutAt : ℕ → List (ℕ × Segment) → Type 0
CutAt o [] = Unit {0}
CutAt o (e ∷ es) = ((e.0 ≤ o) ⊎ (o + length e.1.bytes ≤ e.0)) × CutAt o es

-- whether the offset o is among those
unfoldable pub among : ℕ → List ℕ → Bool
among o [] = false
among o (x ∷ xs) = o == x || among o xs

-- whatever was among those is among these
unfoldable pub Extends : (old new : List ℕ) → Type 0
Extends old new = (o : ℕ) → among o old ≡ true → among o new ≡ true

-- none of those lies below o
unfoldable pub NoneBelow : ℕ → List ℕ → Type 0
NoneBelow o [] = Unit {0}
NoneBelow o (x ∷ xs) = (o ≤ x) × NoneBelow o xs

-- the first of those
unfoldable pub lowest : List ℕ → Option ℕ
lowest [] = None
lowest (x ∷ xs) = Some x

-- the end of each lost segment is among those
unfoldable pub Listed : List (ℕ × Segment) → List ℕ → Type 0
Listed [] ends = Unit {0}
Listed (e ∷ es) ends = (e.1.lost ≡ true → among e.0 ends ≡ true) × Listed es ends

-- the end of each segment that ends behind start and at end or before is among those
unfoldable pub Noted : (start end : ℕ) → List (ℕ × Segment) → List ℕ → Type 0
Noted start end [] ends = Unit {0}
Noted start end (e ∷ es) ends = (start < e.0 → e.0 ≤ end → among e.0 ends ≡ true) × Noted start end es ends

-- the first segment that ends behind the offset o
unfoldable pub first_behind : ℕ → List (ℕ × Segment) → Option (ℕ × Segment)
first_behind o [] = None
first_behind o (e ∷ es) = if nat_lt o e.0 then Some e else first_behind o es

-- where a segment ends, its bytes up to an offset where it has some on both sides of it, and whether it is lost
unfoldable pub front_of : ℕ → Option (ℕ × Segment) → Option (ℕ × List ℕ × Bool)
front_of o None = None
front_of o (Some e) = if nat_lt (begin e) o then Some (e.0, take (o - begin e) e.1.bytes, e.1.lost) else None

-- the front of the segment that has bytes on both sides of an offset
unfoldable pub straddling : ℕ → List (ℕ × Segment) → Option (ℕ × List ℕ × Bool)
straddling o es = front_of o (first_behind o es)

-- where the first segment ends, and how many bytes it has
unfoldable pub first_segment : List (ℕ × Segment) → Option (ℕ × ℕ)
first_segment [] = None
first_segment (e ∷ es) = Some (e.0, length e.1.bytes)

-- a range begins with the first segment, which ends at `at`, and ends within it
unfoldable pub IsFront : (start end at : ℕ) → List (ℕ × Segment) → Type 0
IsFront start end at [] = ⊥
IsFront start end at (e ∷ es) = (at ≡ e.0) × (start + length e.1.bytes ≡ at) × (start < end) × (end < at)

-- the segments, of which one that has bytes on both sides of an offset is cut there
unfoldable pub split : ℕ → List (ℕ × Segment) → List (ℕ × Segment)
split o [] = []
split o (e ∷ es) =
    if nat_lt o e.0
    then (if nat_lt (begin e) o
    then (o, record { bytes = take (o - begin e) e.1.bytes; lost = e.1.lost }) ∷ (e.0, record { bytes = drop (o - begin e) e.1.bytes; lost = e.1.lost }) ∷ es
    else e ∷ es)
    else e ∷ split o es

-- the segment that ends at k becomes another
unfoldable pub changed_at : ℕ → (Segment → Segment) → List (ℕ × Segment) → List (ℕ × Segment)
changed_at k f [] = []
changed_at k f (e ∷ es) = if k == e.0 then (e.0, f e.1) ∷ es else e ∷ changed_at k f es

-- a segment without its first n bytes
unfoldable pub without_front : ℕ → Segment → Segment
without_front n s = record s { bytes = drop n s.bytes }

-- a segment that is lost, or isn't
unfoldable pub with_lost : Bool → Segment → Segment
with_lost lost s = record s { lost = lost }

-- a segment holds at least n bytes
unfoldable pub Holds : ℕ → Option Segment → Type 0
Holds n None = Unit {0}
Holds n (Some s) = n ≤ length s.bytes

-- whether a segment ends behind start and at end or before
unfoldable pub is_within : (start end : ℕ) → ℕ × Segment → Bool
is_within start end e = nat_lt start e.0 && nat_le e.0 end

-- where a segment ends, unless it ends behind that
unfoldable pub end_by : ℕ → Option (ℕ × Segment) → Option ℕ
end_by end None = None
end_by end (Some e) = if nat_le e.0 end then Some e.0 else None

-- where the first segment ends that ends behind start and at end or before
unfoldable pub next_within : (start end : ℕ) → List (ℕ × Segment) → Option ℕ
next_within start end es = end_by end (first_behind start es)

-- the segments that end behind start and at end or before are lost, or aren't any more
unfoldable pub stood : (lost : Bool) → (start end : ℕ) → List (ℕ × Segment) → List (ℕ × Segment)
stood lost start end [] = []
stood lost start end (e ∷ es) = (if is_within start end e then (e.0, with_lost lost e.1) else e) ∷ stood lost start end es

-- without them
unfoldable pub outside : (start end : ℕ) → List (ℕ × Segment) → List (ℕ × Segment)
outside start end [] = []
outside start end (e ∷ es) = if is_within start end e then outside start end es else e ∷ outside start end es

-- where the first lost segment ends
unfoldable pub first_lost : List (ℕ × Segment) → Option ℕ
first_lost [] = None
first_lost (e ∷ es) = if e.1.lost then Some e.0 else first_lost es

-- whether the segment that ends at k is lost
unfoldable pub is_lost : Option Segment → Bool
is_lost None = false
is_lost (Some s) = s.lost

-- at most so many bytes of the first lost segment, and their offset
unfoldable pub lost_front : ℕ → List (ℕ × Segment) → Option (ℕ × List ℕ)
lost_front most [] = None
lost_front most (e ∷ es) = if e.1.lost then Some (begin e, take most e.1.bytes) else lost_front most es

-- at most so many bytes of a segment, none below the offset o, and their offset
unfoldable pub part_from : (offset most : ℕ) → Option (ℕ × Segment) → Option (ℕ × List ℕ)
part_from o most None = None
part_from o most (Some e) = Some (begin e + (o - begin e), take most (drop (o - begin e) e.1.bytes))

-- what is kept, as what was written
unfoldable pub buffered : (written sent : ℕ) → List (ℕ × Segment) → Buffer
buffered written sent segments = record { written = written; sent = sent; kept = flat segments }

-- What holds of all that is kept
pub record IsSound (written : ℕ) (sent : ℕ) (gone : ℕ) (segments : List (ℕ × Segment)) (ends : List ℕ) : Type 0 where
  -- the segments
  pub apart : Apart 0 segments
  -- no byte lies behind those that were written
  pub below : EndBy written segments
  -- lost ones are found by their ends
  pub listed : Listed segments ends
  -- each byte that was written is kept or gone
  pub counted : gone + length (flat segments) ≡ written
