use Rattle.std.proofs.Common.{◌≡◌, ℕ, ◌-◌, true, List, length, reverse, Option, refl, sym, ap, ◌∙◌, subst, arith}
use Rattle.qc_base.specs.declared.range_set.NumberRange.{NumberRange}
use Rattle.qc_base.specs.RangeSet.{Member, Normal}
use Rattle.qc_base.specs.Varint.{IsNumber}
use Rattle.qc_frame.specs.AckRanges.{ArePackets}
use Rattle.qc_frame.specs.FrameFits.{CountsFit, Fits}
use Rattle.qc_frame.specs.declared.frames.EcnCounts.{EcnCounts}
use Rattle.qc_frame.proofs.RangesUp.{packets_there, packets_last, member_reverse, reverse_member}
use Rattle.qc_frame.proofs.ack_ranges.OwnedAck.of_numbers.Goals as goal

pub returns-then-not-are_packets-clause-none : goal.returns-then-not-are_packets-clause-none
returns-then-not-are_packets-clause-none c packets =
    let ranges : List NumberRange = c.as_slice-ranges.result.now in
    let same : ranges ≡ c.args.numbers.now = c.as_slice-ranges.ensures.ranges in
    let normal : Normal ranges = subst (λ (l : List NumberRange). Normal l) (sym same) c.as_slice-ranges.ensures.normal in
    let last = packets_last ranges (length ranges - 1) normal refl (subst (λ (l : List NumberRange). ArePackets l) (sym same) packets) in
    let yes : c.are_packets.result ≡ true = c.are_packets.ensures.1 last in
    let wrong = c.if-not-are_packets.true in
    grind (arith, yes, wrong)

pub returns-clause-some : goal.returns-clause-some
returns-clause-some c =
    let ranges : List NumberRange = c.as_slice-ranges.result.now in
    let same : ranges ≡ c.args.numbers.now = c.as_slice-ranges.ensures.ranges in
    let normal : Normal ranges = subst (λ (l : List NumberRange). Normal l) (sym same) c.as_slice-ranges.ensures.normal in
    let right = c.if-not-are_packets.false in
    let yes : c.are_packets.result ≡ true = grind (arith, right) in
    let last = c.are_packets.ensures.0 yes in
    subst (λ (l : List NumberRange). ArePackets l) same (packets_there ranges (length ranges - 1) normal last.0 refl last.1)

pub returns-clause-numbers : goal.returns-clause-numbers
returns-clause-numbers c n =
    let said = c.in_ok-ack.ensures.says.said ∙ ap reverse c.as_slice-ranges.ensures.ranges in (
      λ there. reverse_member n c.args.numbers.now (subst (λ (l : List NumberRange). Member n l) said there),
      λ there. subst (λ (l : List NumberRange). Member n l) (sym said) (member_reverse n c.args.numbers.now there),
    )

pub returns-clause-fits : goal.returns-clause-fits
unfolding Fits
returns-clause-fits c delay counts =
    let says = c.in_ok-ack.ensures.says in
    let others = c.in_ok-ack.ensures.others in
    (says.small, subst (λ (n : ℕ). IsNumber n) (sym others.0) delay, says.fits, subst (λ (ecn : Option EcnCounts). CountsFit ecn) (sym others.1) counts)
