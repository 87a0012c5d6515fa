-- What joins a datagram, and what begins a further one, by what the calls say that look for it.
use Rattle.std.proofs.Common.{◌≡◌, ℕ, ◌-◌, ◌==◌, refl, sym, ap, ◌∙◌, subst, Bool, true, false, ◌||◌, ◌&&◌, not, Option, Some, None, nat_lt, ◌⊎◌, inl, inr, arith}
use Rattle.std.proofs.lemmas.Bool.Decides.{nat_tests}
use Rattle.qc_base.specs.declared.side.SpaceId.{SpaceId}
use Rattle.qc_base.specs.declared.side.SpaceId.TheVariants.{Initial, Handshake, «Data»}
use Rattle.qc_send.specs.declared.joining.Further.{Further}
use Rattle.qc_send.specs.Joining.{FurtherIs, HasIn, IsFull, JoiningIs, JoinsIs, LacksIn, StaysOut, begins_behind, further_by, goes_on, is_later, is_small, joins_more}
use Rattle.qc_state.specs.declared.deeds.Quiet.{Quiet}
use Rattle.qc_state.specs.declared.deeds.Quiet.TheVariants.{NothingOwed, Silent, Amplification, Congestion, Pacing, Killed}
use Rattle.qc_state.specs.declared.transmit.Batch.{Batch}
use Rattle.qc_state.specs.declared.transmit.TheConstants.{JOINING_SIZE}
use Rattle.qc_state.specs.Acks.{IsLongAck, IsShortAck, is_ack_owed, may_acknowledge}
use Rattle.qc_state.specs.Keys.{form_in}
use Rattle.qc_state.specs.Offers.{datagram_fits, wants_sending}
use Rattle.qc_state.specs.Batches.{is_done, is_in_order, is_whole, next_segment}
use Rattle.qc_state.specs.Sending.{HasTurn, begun_view, is_used_up, limit_in, owes_in, room_of}
use Rattle.qc_state.specs.Spaces.{is_space, space_of}
use Rattle.qc_state.specs.Types.{Types, Meaning}
use Rattle.qc_state.specs.View.{View}
use Rattle.qc_send.proofs.Sizes.{both_left, both_right, le_holds, lt_fails, lt_holds, none_left, none_right}

-- a count that isn't above 0 is 0
none_due : (n : ℕ) → not (n == 0) ≡ false → n ≡ 0
none_due n h = grind (arith, nat_tests)

not_holds : (b : Bool) → not b ≡ true → b ≡ false
not_holds true h = cc
not_holds false h = refl

module _ {t : Types} where
  -- ---- whether a packet holds something

  lacks : (time left room : ℕ) (s : View t) (id : SpaceId) (wants first : Bool) → wants ≡ (wants_sending s id || (not ((space_of s.waiting.spaces id).probes == 0) || is_used_up s id)) → wants ≡ false →
      room ≡ room_of left (begun_view s id false) (form_in s.keys id) → first ≡ datagram_fits id room s → first ≡ false →
      (is_ack_owed (space_of s.waiting.spaces id).acks ≡ true → IsLongAck time (space_of s.waiting.spaces id) room) → LacksIn time left s id
  lacks time left room s id wants first is_wants no_wants is_room is_first no_first long = record {
    wants = none_left (wants_sending s id) _ (sym is_wants ∙ no_wants);
    probes = none_due (space_of s.waiting.spaces id).probes (none_left _ (is_used_up s id) (none_right (wants_sending s id) _ (sym is_wants ∙ no_wants)));
    ack = λ owes. subst (λ (n : ℕ). IsLongAck time (space_of s.waiting.spaces id) n) is_room (long owes);
    datagram = ap (λ (n : ℕ). datagram_fits id n s) (sym is_room) ∙ sym is_first ∙ no_first;
  }

  -- no ACK is owed
  pub lacks_all : (time left room : ℕ) (s : View t) (id : SpaceId) (wants first owes : Bool) → wants ≡ (wants_sending s id || (not ((space_of s.waiting.spaces id).probes == 0) || is_used_up s id)) → wants ≡ false →
      room ≡ room_of left (begun_view s id false) (form_in s.keys id) → first ≡ datagram_fits id room s → first ≡ false → owes ≡ is_ack_owed (space_of s.waiting.spaces id).acks → owes ≡ false → LacksIn time left s id
  lacks_all time left room s id wants first owes is_wants no_wants is_room is_first no_first is_owes no_owes =
      lacks time left room s id wants first is_wants no_wants is_room is_first no_first (λ e. absurd (cc (is_owes, no_owes, e)))

  -- or one that has no room
  pub lacks_ack : (time left room : ℕ) (s : View t) (id : SpaceId) (wants first fits : Bool) → wants ≡ (wants_sending s id || (not ((space_of s.waiting.spaces id).probes == 0) || is_used_up s id)) → wants ≡ false →
      room ≡ room_of left (begun_view s id false) (form_in s.keys id) → first ≡ datagram_fits id room s → first ≡ false → (fits ≡ false → IsLongAck time (space_of s.waiting.spaces id) room) → fits ≡ false → LacksIn time left s id
  lacks_ack time left room s id wants first fits is_wants no_wants is_room is_first no_first long no_fits =
      lacks time left room s id wants first is_wants no_wants is_room is_first no_first (λ e. long no_fits)

  -- and what has room

  pub has_waits : (closing : Bool) (time left : ℕ) (s : View t) (id : SpaceId) (wants : Bool) → wants ≡ (wants_sending s id || (not ((space_of s.waiting.spaces id).probes == 0) || is_used_up s id)) → wants ≡ true → HasIn closing time left s id
  has_waits closing time left s id wants is holds = HasIn.waits (sym is ∙ holds)

  pub has_datagram : (closing : Bool) (time left room : ℕ) (s : View t) (id : SpaceId) (first : Bool) → room ≡ room_of left (begun_view s id false) (form_in s.keys id) → first ≡ datagram_fits id room s → first ≡ true → HasIn closing time left s id
  has_datagram closing time left room s id first is_room is_first holds = HasIn.datagram (ap (λ (n : ℕ). datagram_fits id n s) (sym is_room) ∙ sym is_first ∙ holds)

  may_of : (s : View t) (id : SpaceId) → is_ack_owed (space_of s.waiting.spaces id).acks ≡ true → may_acknowledge (space_of s.waiting.spaces id).acks ≡ true
  unfolding is_ack_owed
  may_of s id h = both_right _ (may_acknowledge (space_of s.waiting.spaces id).acks) h

  pub has_ack : (closing : Bool) (time left room : ℕ) (s : View t) (id : SpaceId) (owes fits : Bool) → room ≡ room_of left (begun_view s id false) (form_in s.keys id) → owes ≡ is_ack_owed (space_of s.waiting.spaces id).acks → owes ≡ true →
      (fits ≡ true → may_acknowledge (space_of s.waiting.spaces id).acks ≡ true → IsShortAck time (space_of s.waiting.spaces id) room) → fits ≡ true → HasIn closing time left s id
  has_ack closing time left room s id owes fits is_room is_owes owed short fit =
      let owing : is_ack_owed (space_of s.waiting.spaces id).acks ≡ true = sym is_owes ∙ owed in
      HasIn.ack owing (subst (λ (n : ℕ). IsShortAck time (space_of s.waiting.spaces id) n) is_room (short fit (may_of s id owing)))

  -- ---- whether it joins

  pub not_later : (time : ℕ) (s : View t) (b : Batch) (id : SpaceId) (later : Bool) → later ≡ is_later b.space id → later ≡ false → StaysOut time s b id
  not_later time s b id later is none = λ e. absurd (cc (is, none, e))

  pub not_owing : (time : ℕ) (s : View t) (b : Batch) (id : SpaceId) (owes : Bool) → owes ≡ owes_in b s id → owes ≡ false → StaysOut time s b id
  not_owing time s b id owes is none = λ e. inl (sym is ∙ none)

  pub joins_by : (time left : ℕ) (s : View t) (b : Batch) (id : SpaceId) (later owes some : Bool) → later ≡ is_later b.space id → later ≡ true → owes ≡ owes_in b s id → owes ≡ true →
      left ≡ b.capacity - b.filled → (some ≡ false → LacksIn time left s id) → (some ≡ true → HasIn b.closing time left s id) → JoinsIs time s b id some
  joins_by time left s b id later owes true is_later_so holds is_owes owed is_left lacking having =
      (sym is_later_so ∙ holds, sym is_owes ∙ owed, subst (λ (n : ℕ). HasIn b.closing time n s id) is_left (having refl))
  joins_by time left s b id later owes false is_later_so holds is_owes owed is_left lacking having = λ e. inr (subst (λ (n : ℕ). LacksIn time n s id) is_left (lacking refl))

  -- ---- which one does

  pub none_more : (time : ℕ) (s : View t) (b : Batch) (more : Bool) → more ≡ joins_more b → more ≡ false → JoiningIs time s b None
  none_more time s b more is none = inl (sym is ∙ none)

  pub one_joins : (time : ℕ) (s : View t) (b : Batch) (id : SpaceId) (more joins : Bool) → more ≡ joins_more b → more ≡ true → JoinsIs time s b id joins → joins ≡ true → JoiningIs time s b (Some id)
  one_joins time s b id more joins is holds h e =
      let both : JoinsIs time s b id true = subst (λ (x : Bool). JoinsIs time s b id x) e h in
      (sym is ∙ holds, both.0, both.1, both.2)

  pub all_stay : (time : ℕ) (s : View t) (b : Batch) (first second : Bool) → JoinsIs time s b Handshake first → first ≡ false → JoinsIs time s b «Data» second → second ≡ false → JoiningIs time s b None
  all_stay time s b first second h e k f =
      inr (each (subst (λ (x : Bool). JoinsIs time s b Handshake x) e h) (subst (λ (x : Bool). JoinsIs time s b «Data» x) f k))
    where
      none_first : (last : Option SpaceId) → is_later last Initial ≡ true → (owes_in b s Initial ≡ false) ⊎ LacksIn time (b.capacity - b.filled) s Initial
      none_first None g = cc
      none_first (Some Initial) g = cc
      none_first (Some Handshake) g = cc
      none_first (Some Data) g = cc

      each : StaysOut time s b Handshake → StaysOut time s b «Data» → (id : SpaceId) → StaysOut time s b id
      each x y Initial = λ g. none_first b.space g
      each x y Handshake = x
      each x y Data = y

  -- ---- what begins a further datagram

  -- a space that owes something, and whose packet may begin one, has its turn
  further_turn : (m : Meaning t) (time : ℕ) (s : View t) (b : Batch) (id : SpaceId) → IsFull time s b → goes_on b ≡ true → begins_behind s b id ≡ true → HasTurn m s b id
  further_turn m time s b id full goes begins = record {
    alive = full.alive;
    unclosed = full.unclosed;
    spare = not_holds b.worn (both_left (not b.worn) _ (both_left (not b.worn && nat_lt b.made b.most) _ goes));
    owed = both_right (is_done b || is_space id Initial) (owes_in b s id) (both_right (is_in_order b.space id) _ begins);
    order = both_left (is_in_order b.space id) _ begins;
    first = λ none. absurd (omega (arith, none, full.ended.some));
  }

  -- what the limits make of it
  by_limit : (m : Meaning t) (time : ℕ) (s : View t) (b : Batch) (id : SpaceId) (limit : Option Quiet) → IsFull time s b → goes_on b ≡ true → begins_behind s b id ≡ true → is_small b id ≡ false →
      limit_in m time s b id ≡ limit → HasIn b.closing time (next_segment b) s id → FurtherIs m time s b (further_by id limit)
  by_limit m time s b id None full goes begins large is has = (
    record {
      turn = further_turn m time s b id full goes begins;
      place = record {
        few = lt_holds b.made b.most (both_right (not b.worn) _ (both_left (not b.worn && nat_lt b.made b.most) _ goes));
        free = is;
        further = both_left (is_done b || is_space id Initial) _ (both_right (is_in_order b.space id) _ begins);
      };
      behind = both_hold (is_whole b) _ (both_left (is_whole b) _ (both_right (not b.worn && nat_lt b.made b.most) _ goes)) full.ended.filled;
      roomy = record {
        sized = full.sized;
        left = le_holds JOINING_SIZE (next_segment b) (both_right (is_whole b) _ (both_right (not b.worn && nat_lt b.made b.most) _ goes));
        large = λ e. (refl, lt_fails (next_segment b) b.least (second_fails (is_space id Initial) _ large e));
        bare = λ e. absurd (cc e);
      };
    },
    has,
  )
    where
      both_hold : (x y : Bool) → x ≡ true → y ≡ true → (x && y) ≡ true
      both_hold true y e f = f
      both_hold false y e f = cc

      second_fails : (x y : Bool) → (x && y) ≡ false → x ≡ true → y ≡ false
      second_fails true y h e = h
      second_fails false y h e = cc
  by_limit m time s b id (Some Pacing) full goes begins large is has = record {
    space = id;
    turn = further_turn m time s b id full goes begins;
    few = lt_holds b.made b.most (both_right (not b.worn) _ (both_left (not b.worn && nat_lt b.made b.most) _ goes));
    held = is;
  }
  by_limit m time s b id (Some Congestion) full goes begins large is has = tt
  by_limit m time s b id (Some NothingOwed) full goes begins large is has = tt
  by_limit m time s b id (Some Silent) full goes begins large is has = tt
  by_limit m time s b id (Some Amplification) full goes begins large is has = tt
  by_limit m time s b id (Some Killed) full goes begins large is has = tt

  pub further_is : (m : Meaning t) (time : ℕ) (s : View t) (b : Batch) (id : SpaceId) (begins small : Bool) (limit : Option Quiet) (found : Further) → IsFull time s b → goes_on b ≡ true →
      begins ≡ begins_behind s b id → begins ≡ true → small ≡ is_small b id → small ≡ false → limit ≡ limit_in m time s b id → HasIn b.closing time (next_segment b) s id → found ≡ further_by id limit → FurtherIs m time s b found
  further_is m time s b id begins small limit found full goes is_begins holds is_small_so large is_limit has is_found =
      subst (λ (x : Further). FurtherIs m time s b x) (sym is_found) (by_limit m time s b id limit full goes (sym is_begins ∙ holds) (sym is_small_so ∙ large) (sym is_limit) has)
