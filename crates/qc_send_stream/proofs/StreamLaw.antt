-- A stream's bytes and its end are kept and sent until they are acknowledged
use Rattle.std.proofs.Common.{◌≡◌, ◌∙◌, ap, sym, ℕ, ◌<◌, ◌≤◌, List, [], ◌∷◌, Bool, true, false, cond, not, ◌&&◌, if◌then◌else◌, length, arith, refl, subst, Option, None, Some, is_some}
use Rattle.std.proofs.lemmas.Bool.{and_parts, false≢true, false_from_ne_true}
use Rattle.std.specs.Prelude.{IsSome, IfSome}
use Rattle.qc_send_stream.specs.declared.send.Part.{Part}
use Rattle.qc_send_stream.specs.declared.send.SendPart.{SendPart}
use Rattle.qc_send_stream.specs.declared.send.Reset.{Reset}
use Rattle.qc_send_stream.specs.declared.send.Standing.{Standing}
use Rattle.qc_send_stream.specs.declared.send.Standing.TheVariants.{Waiting as Waits, InFlight as Flies, Acknowledged as Came}
use Rattle.qc_send_stream.specs.Buffer.{Kept, Buffer, nothing, has_bytes, part_bytes, IsNext}
use Rattle.qc_send_stream.specs.Written.{after, after_step}
use Rattle.qc_send_stream.specs.Fates.{Fate, NotWritten, NotSent, Outstanding, Missing, Acknowledged, LetGo, fate, fate_if, fate_lost, fate_sealed, fate_written, is_due, is_kept, is_owed, KeepsUntilAcknowledged, SendsWhatIsDue}
use Rattle.qc_send_stream.specs.Sending.{IsOffer, done_with, end_acked, end_waits, end_with, acked_standing, lost_standing, sealed_standing, finished, is_done, limit_raised, new_sending, part_acked, part_lost, part_of, part_sealed, part_written, reset_acked, reset_lost, reset_sealed, unblocked, was_blocked, was_reset, was_stopped}
use Rattle.qc_send_stream.specs.StreamFates.{StreamStep, Writes, IsBlocked, IsUnblocked, Finishes, Resets, Stops, Raises, SealsPart, AcksPart, LosesPart, SealsReset, AcksReset, LosesReset, after_one, after_all, on_bytes, all_on_bytes, on_end, end_acknowledged, end_from, end_fate, KeepsBytes, SendsBytes, SendsEnd, IsDoneOnce}
use Rattle.qc_send_stream.proofs.FateLaw.{keeps_until_acknowledged, sends_what_is_due}

-- the bytes are what the steps on them leave
bytes_after : (xs : List StreamStep) (s : SendPart) → (after_all xs s).buffer ≡ after (all_on_bytes xs) s.buffer
unfolding after_all after_one all_on_bytes on_bytes after after_step part_written was_blocked unblocked finished was_reset was_stopped limit_raised part_sealed part_acked part_lost reset_sealed reset_acked reset_lost
bytes_after [] s = refl
bytes_after (Writes bs ∷ xs) s = bytes_after xs (after_one (Writes bs) s)
bytes_after (IsBlocked ∷ xs) s = bytes_after xs (after_one IsBlocked s)
bytes_after (IsUnblocked ∷ xs) s = bytes_after xs (after_one IsUnblocked s)
bytes_after (Finishes ∷ xs) s = bytes_after xs (after_one Finishes s)
bytes_after (Resets code ∷ xs) s = bytes_after xs (after_one (Resets code) s)
bytes_after (Stops code ∷ xs) s = bytes_after xs (after_one (Stops code) s)
bytes_after (Raises limit ∷ xs) s = bytes_after xs (after_one (Raises limit) s)
bytes_after (SealsPart start stop last ∷ xs) s = bytes_after xs (after_one (SealsPart start stop last) s)
bytes_after (AcksPart start stop last ∷ xs) s = bytes_after xs (after_one (AcksPart start stop last) s)
bytes_after (LosesPart start stop last ∷ xs) s = bytes_after xs (after_one (LosesPart start stop last) s)
bytes_after (SealsReset ∷ xs) s = bytes_after xs (after_one SealsReset s)
bytes_after (AcksReset ∷ xs) s = bytes_after xs (after_one AcksReset s)
bytes_after (LosesReset ∷ xs) s = bytes_after xs (after_one LosesReset s)

bytes_new : (limit : ℕ) (xs : List StreamStep) → (after_all xs (new_sending limit)).buffer ≡ after (all_on_bytes xs) nothing
unfolding new_sending
bytes_new limit xs = bytes_after xs (new_sending limit)

-- ---- the end

-- what a fate says of the end
abbrev pub EndFits : Option Standing → Fate → Type 0
EndFits e NotWritten = e ≡ None
EndFits e NotSent = e ≡ Some Waits
EndFits e Outstanding = (is_some e ≡ true) × (end_acked e ≡ false)
EndFits e Missing = e ≡ Some Waits
EndFits e Acknowledged = Unit {0}
EndFits e LetGo = ⊥

end_sealed : (last : Bool) (e : Option Standing) (f : Fate) → EndFits e f → EndFits (end_with sealed_standing last e) (fate_if last fate_sealed f)
unfolding fate_if fate_sealed
end_sealed false None f fits = fits
end_sealed false (Some x) f fits = fits
end_sealed true None NotWritten fits = refl
end_sealed true None NotSent fits = absurd (cc)
end_sealed true None Outstanding fits = absurd (false≢true fits.0)
end_sealed true None Missing fits = absurd (cc)
end_sealed true (Some x) NotWritten fits = absurd (cc)
end_sealed true (Some Waits) NotSent fits = (refl, refl)
end_sealed true (Some Flies) NotSent fits = (refl, refl)
end_sealed true (Some Came) NotSent fits = absurd (let none : ⊥ = cc in none)
end_sealed true (Some Waits) Outstanding fits = (refl, refl)
end_sealed true (Some Flies) Outstanding fits = (refl, refl)
end_sealed true (Some Came) Outstanding fits = fits
end_sealed true (Some Waits) Missing fits = (refl, refl)
end_sealed true (Some Flies) Missing fits = (refl, refl)
end_sealed true (Some Came) Missing fits = absurd (let none : ⊥ = cc in none)
end_sealed true e Acknowledged fits = tt
end_sealed true e LetGo fits = fits

end_acks : (last : Bool) (e : Option Standing) (f : Fate) → EndFits e f → EndFits (end_with acked_standing last e) (fate_if last end_acknowledged f)
unfolding fate_if end_acknowledged
end_acks false None f fits = fits
end_acks false (Some x) f fits = fits
end_acks true None NotWritten fits = refl
end_acks true (Some x) NotWritten fits = absurd (let none : ⊥ = cc in none)
end_acks true e NotSent fits = tt
end_acks true e Outstanding fits = tt
end_acks true e Missing fits = tt
end_acks true e Acknowledged fits = tt
end_acks true e LetGo fits = fits

end_loses : (last : Bool) (e : Option Standing) (f : Fate) → EndFits e f → EndFits (end_with lost_standing last e) (fate_if last fate_lost f)
unfolding fate_if fate_lost
end_loses false None f fits = fits
end_loses false (Some x) f fits = fits
end_loses true None NotWritten fits = refl
end_loses true None NotSent fits = absurd (let none : ⊥ = cc in none)
end_loses true None Outstanding fits = absurd (false≢true fits.0)
end_loses true None Missing fits = absurd (let none : ⊥ = cc in none)
end_loses true (Some x) NotWritten fits = absurd (let none : ⊥ = cc in none)
end_loses true (Some Waits) NotSent fits = refl
end_loses true (Some Flies) NotSent fits = refl
end_loses true (Some Came) NotSent fits = absurd (let none : ⊥ = cc in none)
end_loses true (Some Waits) Outstanding fits = refl
end_loses true (Some Flies) Outstanding fits = refl
end_loses true (Some Came) Outstanding fits = absurd (false≢true (sym fits.1))
end_loses true (Some Waits) Missing fits = refl
end_loses true (Some Flies) Missing fits = refl
end_loses true (Some Came) Missing fits = absurd (let none : ⊥ = cc in none)
end_loses true e Acknowledged fits = tt
end_loses true e LetGo fits = fits

end_written : (e : Option Standing) (f : Fate) → EndFits e f → EndFits (Some Waits) (fate_written f)
unfolding fate_written
end_written e NotWritten fits = refl
end_written e NotSent fits = refl
end_written e Outstanding fits = (refl, refl)
end_written e Missing fits = refl
end_written e Acknowledged fits = tt
end_written e LetGo fits = fits

end_after : (xs : List StreamStep) (s : SendPart) (f : Fate) → EndFits s.end f → EndFits (after_all xs s).end (end_from f xs)
unfolding after_all after_one end_from on_end part_written was_blocked unblocked finished was_reset was_stopped limit_raised part_sealed part_acked part_lost reset_sealed reset_acked reset_lost
end_after [] s f fits = fits
end_after (Writes bs ∷ xs) s f fits = end_after xs (after_one (Writes bs) s) f fits
end_after (IsBlocked ∷ xs) s f fits = end_after xs (after_one IsBlocked s) f fits
end_after (IsUnblocked ∷ xs) s f fits = end_after xs (after_one IsUnblocked s) f fits
end_after (Finishes ∷ xs) s f fits = end_after xs (after_one Finishes s) (fate_written f) (end_written s.end f fits)
end_after (Resets code ∷ xs) s f fits = end_after xs (after_one (Resets code) s) f fits
end_after (Stops code ∷ xs) s f fits = end_after xs (after_one (Stops code) s) f fits
end_after (Raises limit ∷ xs) s f fits = end_after xs (after_one (Raises limit) s) f fits
end_after (SealsPart start stop last ∷ xs) s f fits =
    end_after xs (after_one (SealsPart start stop last) s) (fate_if last fate_sealed f) (end_sealed last s.end f fits)
end_after (AcksPart start stop last ∷ xs) s f fits =
    end_after xs (after_one (AcksPart start stop last) s) (fate_if last end_acknowledged f) (end_acks last s.end f fits)
end_after (LosesPart start stop last ∷ xs) s f fits =
    end_after xs (after_one (LosesPart start stop last) s) (fate_if last fate_lost f) (end_loses last s.end f fits)
end_after (SealsReset ∷ xs) s f fits = end_after xs (after_one SealsReset s) f fits
end_after (AcksReset ∷ xs) s f fits = end_after xs (after_one AcksReset s) f fits
end_after (LosesReset ∷ xs) s f fits = end_after xs (after_one LosesReset s) f fits

end_fits : (limit : ℕ) (xs : List StreamStep) → EndFits (after_all xs (new_sending limit)).end (end_fate xs)
unfolding end_fate new_sending
end_fits limit xs = end_after xs (new_sending limit) NotWritten refl

-- ---- the laws

kept_there : (limit : ℕ) (xs : List StreamStep) (o : ℕ) → is_owed (fate o (all_on_bytes xs)) ≡ true
    → is_kept o (after_all xs (new_sending limit)).buffer.kept ≡ true
unfolding KeepsUntilAcknowledged
kept_there limit xs o owed = ap (λ (b : Buffer). is_kept o b.kept) (bytes_new limit xs) ∙ keeps_until_acknowledged (all_on_bytes xs) o owed

pub keeps_bytes : (limit : ℕ) (xs : List StreamStep) → KeepsBytes limit xs
unfolding KeepsBytes
keeps_bytes limit xs = λ o owed. kept_there limit xs o owed

-- a part with bytes that wait
offered_at : (o : ℕ) (bytes : Option (ℕ × List ℕ)) (s : SendPart) → IsSome bytes × IfSome bytes (λ p. p.0 ≤ o) → IsSome (part_of bytes s) × IfSome (part_of bytes s) (λ p. p.offset ≤ o)
offered_at o None s found = absurd (false≢true found.0)
offered_at o (Some p) s found = (refl, found.1)

not_reset : (s : SendPart) (part : Option Part) (bytes : Option (ℕ × List ℕ)) → s.reset ≡ None → part ≡ (if is_some s.reset then None else part_of bytes s) → part ≡ part_of bytes s
not_reset s part bytes still is = is ∙ ap (λ (r : Bool). (let p : Option Part = cond r None (part_of bytes s) in p)) (ap is_some still)

pub sends_bytes : (limit : ℕ) (xs : List StreamStep) → SendsBytes limit xs
unfolding SendsBytes SendsWhatIsDue IsOffer
sends_bytes limit xs = λ o most part still due offer.
    let s = after_all xs (new_sending limit) in
    let next : IsNext most (after (all_on_bytes xs) nothing) offer.0 = subst (λ (b : Buffer). IsNext most b offer.0) (bytes_new limit xs) offer.1 in
    subst (λ (p : Option Part). IsSome p × IfSome p (λ q. q.offset ≤ o)) (sym (not_reset s part offer.0 still offer.2))
    (offered_at o offer.0 s (sends_what_is_due (all_on_bytes xs) o most offer.0 due next))

due_end : (e : Option Standing) (f : Fate) → is_due f ≡ true → EndFits e f → end_waits e ≡ true
unfolding is_due
due_end e NotWritten due fits = absurd (false≢true due)
due_end e NotSent due fits = ap end_waits fits
due_end e Outstanding due fits = absurd (false≢true due)
due_end e Missing due fits = ap end_waits fits
due_end e Acknowledged due fits = absurd (false≢true due)
due_end e LetGo due fits = absurd (false≢true due)

end_offered : (most : ℕ) (bytes : Option (ℕ × List ℕ)) (s : SendPart) → end_waits s.end ≡ true → 0 < most → IsNext most s.buffer bytes
    → IsSome (part_of bytes s) × IfSome (part_of bytes s) (λ p. length p.bytes ≡ 0 → p.last ≡ true)
unfolding part_bytes
end_offered most None s waits some next =
    rw waits (refl, λ none. refl)
end_offered most (Some p) s waits some next = (refl, λ none. absurd (let more : 0 < length p.1 = next.some (sym next.given) some in omega arith))

pub sends_end : (limit : ℕ) (xs : List StreamStep) → SendsEnd limit xs
unfolding SendsEnd IsOffer
sends_end limit xs = λ most part still due some offer.
    let s = after_all xs (new_sending limit) in
    subst (λ (p : Option Part). IsSome p × IfSome p (λ q. length q.bytes ≡ 0 → q.last ≡ true)) (sym (not_reset s part offer.0 still offer.2))
    (end_offered most offer.0 s (due_end s.end (end_fate xs) due (end_fits limit xs)) some offer.1)

acked_end : (e : Option Standing) (f : Fate) → end_acked e ≡ true → EndFits e f → f ≡ Acknowledged
acked_end e NotWritten acked fits = absurd (false≢true (sym (ap end_acked fits) ∙ acked))
acked_end e NotSent acked fits = absurd (false≢true (sym (ap end_acked fits) ∙ acked))
acked_end e Outstanding acked fits = absurd (false≢true (sym fits.1 ∙ acked))
acked_end e Missing acked fits = absurd (false≢true (sym (ap end_acked fits) ∙ acked))
acked_end e Acknowledged acked fits = refl
acked_end e LetGo acked fits = absurd fits

none_kept : (o : ℕ) (ks : List Kept) → not (has_bytes ks) ≡ true → is_kept o ks ≡ false
unfolding has_bytes is_kept
none_kept o [] none = refl
none_kept o (k ∷ ks) none = absurd (false≢true none)

done_parts : (s : SendPart) → s.reset ≡ None → is_done s ≡ true → (end_acked s.end && not (has_bytes s.buffer.kept)) ≡ true
unfolding is_done
done_parts s still done = sym (ap (λ (r : Option Reset). done_with r (end_acked s.end && not (has_bytes s.buffer.kept))) still) ∙ done

pub is_done_once : (limit : ℕ) (xs : List StreamStep) → IsDoneOnce limit xs
unfolding IsDoneOnce
is_done_once limit xs = λ still done.
    let s = after_all xs (new_sending limit) in
    let both = and_parts (end_acked s.end) (not (has_bytes s.buffer.kept)) (done_parts s still done) in (
      acked_end s.end (end_fate xs) both.0 (end_fits limit xs),
      λ o. false_from_ne_true (is_owed (fate o (all_on_bytes xs))) (λ owed.
          false≢true (sym (none_kept o s.buffer.kept both.1) ∙ kept_there limit xs o owed)),
    )
