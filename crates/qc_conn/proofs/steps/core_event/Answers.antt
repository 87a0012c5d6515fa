use Rattle.std.proofs.Common.{◌≡◌, ◌∙◌, ℕ, List, None, ap, refl, subst}
use Rattle.qc_base.specs.declared.ids.IssuedCid.{IssuedCid}
use Rattle.qc_cids.specs.Cids.{give_refusal}
use Rattle.qc_cids.specs.declared.connection_ids.ConnectionIds.{ConnectionIds}
use Rattle.qc_receive.specs.Events.{GivesRight}
use Rattle.qc_receive.specs.declared.events.ConnectionEvent.{ConnectionEvent}
use Rattle.qc_receive.specs.declared.events.ConnectionEvent.TheVariants.{NewIdentifiers}
use Rattle.qc_conn.proofs.Firsts.{event_leads, few_right, given_leads}
use Rattle.qc_conn.proofs.steps.core_event.Goals as goal

-- a datagram that was cut
pub returns-in_ok-event-in-Datagram : goal.returns-in_ok-event-in-Datagram
returns-in_ok-event-in-Datagram g c =
    event_leads _ c.args.event c.in-Datagram.now c.in-Datagram.remote c.in-Datagram.ecn c.in-Datagram.first_decode c.in-Datagram.remaining _ _ _ _ _ c.in-Datagram.is c.clock.ensures c.clear.ensures c.in_ok-event-in-Datagram.ensures

-- those that an endpoint gives may be given
given_right : (s : ConnectionIds) (event : ConnectionEvent) (ids read : List IssuedCid) (now : ℕ) → event ≡ NewIdentifiers ids now → read ≡ ids → GivesRight event s → give_refusal read s ≡ None
given_right s event ids read now is same right = ap (λ given. give_refusal given s) same ∙ subst (λ event. GivesRight event s) is right

pub core_ids-requires-clause-few : goal.core_ids-requires-clause-few
core_ids-requires-clause-few g c = (few_right _ c.args.core.now.lower.ids (given_right c.args.core.now.lower.ids c.args.event _ _ _ c.in-NewIdentifiers.is c.as_slice.ensures c.requires.given)).0

pub core_ids-requires-clause-right : goal.core_ids-requires-clause-right
core_ids-requires-clause-right g c = (few_right _ c.args.core.now.lower.ids (given_right c.args.core.now.lower.ids c.args.event _ _ _ c.in-NewIdentifiers.is c.as_slice.ensures c.requires.given)).1

-- they are given
pub returns-in_ok-core_ids-in-NewIdentifiers : goal.returns-in_ok-core_ids-in-NewIdentifiers
returns-in_ok-core_ids-in-NewIdentifiers g c = given_leads _ c.args.event _ _ _ _ _ _ _ c.in-NewIdentifiers.is c.as_slice.ensures refl c.clear.ensures c.in_ok-core_ids-in-NewIdentifiers.ensures
