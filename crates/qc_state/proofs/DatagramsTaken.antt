-- The DATAGRAM frames that this end takes: each holds the oldest datagram, and they fit into the room.
use Rattle.std.proofs.Common.{◌≡◌, ℕ, ◌+◌, ◌-◌, ◌≤◌, List, [], ◌∷◌, ◌++◌, length, refl, ap, sym, ◌∙◌, subst, true, false, nat_le, Option, None, Some, arith, append_assoc, append-nil}
use Rattle.std.specs.Prelude.{IfNone, IfSome, option_to_list}
use Rattle.std.proofs.lemmas.Bool.Decides.{nat_tests}
use Rattle.qc_base.specs.Varint.{varint}
use Rattle.qc_datagrams.specs.Queue.{first, first_len}
use Rattle.qc_datagrams.specs.Steps as datagrams
use Rattle.qc_datagrams.specs.Steps.{Sealed, after_step}
use Rattle.qc_datagrams.specs.declared.datagrams.Datagrams.{Datagrams}
use Rattle.qc_frame.specs.Frame.{FrameValue}
use Rattle.qc_frame.specs.FrameFits.{Fits}
use Rattle.qc_frame.specs.FrameSpelling.{frames_spelling, spelling}
use Rattle.qc_frame.specs.declared.frames.FrameOf.TheVariants as frames
use Rattle.qc_frame.proofs.Lengths.{length-datagram}
use Rattle.qc_state.specs.Datagrams.{AllOldest, first_fits, sealed_datagrams}
use Rattle.qc_state.specs.Taking.{AreDatagrams, TakesDatagrams}
use Rattle.qc_state.proofs.DatagramSteps.{datagrams_append, oldest_append, posts_append}
use Rattle.qc_state.proofs.StreamsTaken.{spelled_append}

-- ---- the oldest one fits

pub none_fits : (room : ℕ) (ds : List (List ℕ)) → None ≡ first_len ds → false ≡ first_fits room ds
unfolding first_len
none_fits room [] is = refl
none_fits room (d ∷ ds) is = absurd (cc)

pub some_fits : (room len : ℕ) (ds : List (List ℕ)) → Some len ≡ first_len ds → nat_le (1 + length (varint len) + len) room ≡ first_fits room ds
unfolding first_len
some_fits room len [] is = absurd (cc)
some_fits room len (d ∷ ds) is =
    let same : len ≡ length d = cc in
    ap (λ (n : ℕ). nat_le n room) (ap (λ (n : ℕ). 1 + length (varint n) + n) same ∙ sym (length-datagram d))

-- where it fits, there is one
pub one_drawn : (A : Type 0) (room : ℕ) (ds : List (List ℕ)) (o : Option (List ℕ)) → first_fits room ds ≡ true → option_to_list o ≡ first ds → IfNone o A
unfolding first
one_drawn A room ds (Some d) fits is = tt
one_drawn A room [] None fits is = absurd (cc)
one_drawn A room (d ∷ ds) None fits is = absurd (cc)

-- which is the oldest, and fits
pub drawn_first : (ds : List (List ℕ)) (o : Option (List ℕ)) → option_to_list o ≡ first ds → IfSome o (λ body. first ds ≡ body ∷ [])
drawn_first ds None is = tt
drawn_first ds (Some d) is = sym is

pub drawn_fits : (room : ℕ) (ds : List (List ℕ)) (o : Option (List ℕ)) → first_fits room ds ≡ true → option_to_list o ≡ first ds → IfSome o (λ body. length (spelling (frames.Datagram body)) ≤ room)
unfolding first
drawn_fits room ds None fits is = tt
drawn_fits room [] (Some d) fits is = absurd (cc)
drawn_fits room (x ∷ ds) (Some d) fits is =
    let same : x ≡ d = cc in
    subst (λ (body : List ℕ). length (spelling (frames.Datagram body)) ≤ room) same (grind (arith, nat_tests))

-- ---- DATAGRAM frames, one behind the other

are_both : (fs gs : List FrameValue) → AreDatagrams fs → AreDatagrams gs → AreDatagrams (fs ++ gs)
are_both [] gs h k = k
are_both (frames.Datagram body ∷ fs) gs h k = (h.0, are_both fs gs h.1 k)
are_both (_ ∷ fs) gs h k = absurd h

-- none is taken
pub takes_no_datagram : (room : ℕ) (d : Datagrams) (fs : List FrameValue) → TakesDatagrams room d d fs fs room
unfolding sealed_datagrams AllOldest datagrams.after
takes_no_datagram room d fs = record { own = []; are = tt; oldest = tt; given = refl; list = sym (append-nil fs); fits = omega arith }

-- how many bytes such a frame has
pub size_so : (body : List ℕ) (n : ℕ) → n ≡ 1 + length (varint (length body)) + length body → n ≡ length (spelling (frames.Datagram body))
size_so body n is = is ∙ sym (length-datagram body)

pub size_is : (body : List ℕ) → length (spelling (frames.Datagram body)) ≡ 1 + length (varint (length body)) + length body
size_is body = length-datagram body

-- one more is taken
pub datagram_taken : (room left within : ℕ) (d d1 d2 : Datagrams) (fs gs hs : List FrameValue) (body : List ℕ) (f : FrameValue) → TakesDatagrams room d d1 fs gs left → within ≤ left → within ≤ 16383 → first d1.outgoing ≡ body ∷ [] →
    length (spelling (frames.Datagram body)) ≤ within → d2 ≡ after_step Sealed d1 → f ≡ frames.Datagram body → hs ≡ gs ++ f ∷ [] → TakesDatagrams room d d2 fs hs (left - length (spelling (frames.Datagram body)))
unfolding sealed_datagrams AllOldest datagrams.after Fits
datagram_taken room left within d d1 d2 fs gs hs body f before less few is fits leads same list =
    let g : FrameValue = frames.Datagram body in
    let size : length (spelling g) ≡ 1 + length (varint (length body)) + length body = length-datagram body in
    let whole : length (frames_spelling (g ∷ [])) ≡ length (spelling g) = ap length (append-nil (spelling g)) in
    let turn : first (datagrams.after (sealed_datagrams before.own) d).outgoing ≡ body ∷ [] = subst (λ (x : Datagrams). first x.outgoing ≡ body ∷ []) before.given is in
    record {
      own = before.own ++ g ∷ [];
      are = are_both before.own (g ∷ []) before.are (omega (arith, size, fits, few), tt);
      oldest = oldest_append before.own (g ∷ []) d before.oldest (turn, tt);
      given = leads ∙ ap (after_step Sealed) before.given ∙ sym (ap (λ (xs : List datagrams.Step). datagrams.after xs d) (datagrams_append before.own (g ∷ [])) ∙ posts_append (sealed_datagrams before.own) (sealed_datagrams (g ∷ [])) d);
      list = list ∙ ap (λ (x : FrameValue). gs ++ x ∷ []) same ∙ ap (λ (x : List FrameValue). x ++ g ∷ []) before.list ∙ append_assoc fs before.own (g ∷ []);
      fits = omega (arith, spelled_append before.own (g ∷ []), whole, before.fits, fits, less);
    }
