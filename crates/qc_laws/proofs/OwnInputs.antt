-- Only a datagram tells of packets that came, and of what is given to the layers.
use Rattle.std.proofs.Common.{◌≡◌, ℕ, [], refl, ap, ◌∙◌, false}
use Rattle.qc_state.specs.declared.input.Input.{Input}
use Rattle.qc_state.specs.declared.trace.Step.{Step}
use Rattle.qc_state.specs.Headline.{is_datagram}
use Rattle.qc_state.specs.Moves.{Probe, Move, Arm, Ask, Begin, Finish, Fire, Forget, Give, Pace, Raise, Release, Say, Seal, Shut, Skip, Take, MayMove, deeds_move, move_to, Call, Post, Issue, Outlive, Want, Hold, Spend, Discard, Update}
use Rattle.qc_laws.specs.PieceLaws.{given_in, pieces_in}
use Rattle.qc_state.specs.Run.{IsStep, began, called, time_of}
use Rattle.qc_state.specs.Types.{Types, Meaning}
use Rattle.qc_state.specs.View.{View, At}
use Rattle.qc_laws.proofs.Gifts.{Gives, gives_here, gives_move, quiet_next}
use Rattle.qc_laws.proofs.Inputs.{IsOwn, holds_own}

module _ {t : Types} where
  own_quiet : (x : Move t) → IsOwn x → (a : At t) → MayMove x a.state → Gives [] a (move_to x a)
  unfolding deeds_move
  own_quiet (Ask id) r a may = gives_move [] (Ask id) a refl refl
  own_quiet (Take id fs) r a may = gives_move [] (Take id fs) a refl refl
  own_quiet (Seal time form n size fs) r a may = gives_move [] (Seal time form n size fs) a refl refl
  own_quiet (Forget id) r a may = gives_move [] (Forget id) a refl refl
  own_quiet (Fire after) r a may = gives_move [] (Fire after) a refl refl
  own_quiet (Arm at) r a may = gives_move [] (Arm at) a refl refl
  own_quiet Pace r a may = gives_move [] Pace a refl refl
  own_quiet Discard r a may = gives_move [] Discard a refl refl
  own_quiet (Update fresh session) r a may = gives_move [] (Update fresh session) a refl refl
  own_quiet Release r a may = gives_move [] Release a refl refl
  own_quiet (Begin id opens) r a may = gives_move [] (Begin id opens) a refl refl
  own_quiet Skip r a may = gives_move [] Skip a refl refl
  own_quiet (Want time count) r a may = gives_move [] (Want time count) a refl refl
  own_quiet (Issue time given) r a may = gives_move [] (Issue time given) a refl refl
  own_quiet Outlive r a may = gives_move [] Outlive a refl refl
  own_quiet (Shut time close) r a may = gives_move [] (Shut time close) a refl refl
  own_quiet (Raise to) r a may = gives_move [] (Raise to) a refl refl
  own_quiet (Give why) r a may = gives_move [] (Give why) a refl refl
  own_quiet (Spend tokens) r a may = gives_move [] (Spend tokens) a refl refl
  own_quiet (Hold until) r a may = gives_move [] (Hold until) a refl refl
  own_quiet (Finish bytes control) r a may = gives_move [] (Finish bytes control) a refl refl
  own_quiet (Probe time n bytes q) r a may = gives_move [] (Probe time n bytes q) a refl refl
  own_quiet (Say q) r a may = gives_move [] (Say q) a refl refl
  own_quiet (Call x) r a may = gives_move [] (Call x) a refl refl
  own_quiet (Post x) r a may = gives_move [] (Post x) a refl refl
  own_quiet _ r a may = absurd r

  quiet_step : (m : Meaning t) (k : ℕ) (s : View t) (i : Input) (x : Step) (s' : View t) → is_datagram i ≡ false → (h : IsStep m k s i x s') → Gives [] (began s (time_of i)) (called m s i h.choice)
  unfolding called
  quiet_step m k s i x s' none h = holds_own (Gives []) gives_here quiet_next own_quiet m i h.choice (began s (time_of i)) none h.allowed

  -- so a step over another input tells neither
  pub own_pieces : (m : Meaning t) (k : ℕ) (s : View t) (i : Input) (x : Step) (s' : View t) → is_datagram i ≡ false → IsStep m k s i x s' → pieces_in x.did ≡ []
  unfolding began
  own_pieces m k s i x s' none h = let told = quiet_step m k s i x s' none h in ap pieces_in (h.deeds ∙ told.appended) ∙ told.pieces

  pub own_given : (m : Meaning t) (k : ℕ) (s : View t) (i : Input) (x : Step) (s' : View t) → is_datagram i ≡ false → IsStep m k s i x s' → given_in x.did ≡ []
  unfolding began
  own_given m k s i x s' none h = let told = quiet_step m k s i x s' none h in ap given_in (h.deeds ∙ told.appended) ∙ told.given
