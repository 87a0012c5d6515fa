-- The line of a setting: its field, and that no other setting has it.
use Rattle.std.proofs.Common.{◌≡◌, ◌≢◌, ℕ, ◌+◌, ◌*◌, ◌^◌, ◌<◌, ◌≤◌, List, [], ◌∷◌, ◌++◌, length, get_or, Bool, true, false, Option, Some, None, ◌==◌, refl, sym, ◌∙◌, ap, arith, codes}
use Rattle.std.proofs.lemmas.List.{append_assoc, append_cancel_left, append_cancel_right}
use Rattle.std.specs.Fmt.{decimal}
use Rattle.std.proofs.lemmas.Fmt.{decimal_injective}
use Rattle.std.specs.declared.net.socket_addr.SocketAddr.{SocketAddr}
use Rattle.hex.specs.Hex.{lower_digits}
use Rattle.hex.proofs.HexLemmas.{length-encode_with}
use Rattle.qc_base.specs.Grammar.{IsBytes}
use Rattle.qc_base.specs.declared.side.Side.{Side}
use Rattle.qc_base.specs.declared.side.Side.TheVariants.{Client, Server}
use Rattle.qc_state.specs.declared.input.Input.{Input}
use Rattle.qc_script.specs.declared.settings.RandomWords.{RandomWords}
use Rattle.qc_script.specs.declared.settings.RandomWords.TheVariants.{Zeros, Seed}
use Rattle.qc_script.specs.declared.settings.Setting.{Setting}
use Rattle.qc_script.specs.declared.settings.Setting.TheVariants.{Random, Time, Local, Remote, First, Orig, Retry, Addr, Validated, Token, Secret, LimitInitial, LimitHandshake, LimitData, LimitFailures, Idle, Mtud, Gso, Sent, Clock}
use Rattle.qc_script.specs.Fields.{hex_field, address_text, flag_text, IsAddress}
use Rattle.qc_script.specs.Script.{random_text, side_line, input_line, IsRandom, IsSeed, IsId, IsRemote, IsFirst, IsValidated, IsToken, IsSecret, IsSent, IsClock}
use Rattle.qc_script.specs.Items.{setting_line, IsSetting, IsNextSetting, IsSettingRead, IsOfKeys, IsOfServer, IsOfTransport, IsReadOf}
use Rattle.qc_script.proofs.FieldLemmas.{hex_field_injective, address_injective}
use Rattle.qc_script.proofs.LineLemmas.{no_set}

-- ---- words and fields

-- words and a field, with LF behind them
spelled_on : (words field f : List ℕ) → field ≡ f → (words ++ field) ++ 10 ∷ [] ≡ words ++ (f ++ 10 ∷ [])
spelled_on words field f e = append_assoc words field (10 ∷ []) ∙ ap (λ (z : List ℕ). words ++ (z ++ 10 ∷ [])) e

words_and_field : (words text f : List ℕ) → text ++ 10 ∷ [] ≡ words ++ (f ++ 10 ∷ []) → text ≡ words ++ f
words_and_field words text f e = append_cancel_right text (words ++ f) (10 ∷ []) (e ∙ sym (append_assoc words f (10 ∷ [])))

field_same : (words field f : List ℕ) → (words ++ field) ++ 10 ∷ [] ≡ words ++ (f ++ 10 ∷ []) → field ≡ f
field_same words field f e = append_cancel_left words field f (words_and_field words (words ++ field) f e)

fields_same_behind : (words a b : List ℕ) → words ++ (a ++ 10 ∷ []) ≡ words ++ (b ++ 10 ∷ []) → a ≡ b
fields_same_behind words a b e = field_same words a b (append_assoc words a (10 ∷ []) ∙ e)

-- the letters behind `set `, of which the first and the third count twice
abbrev letters : List ℕ → ℕ
letters line = (2 * get_or line 4 0 + get_or line 5 0) + 2 * get_or line 6 0

-- the letter behind `set limit_`
abbrev limit_letter : (is_limit : Bool) → List ℕ → ℕ
limit_letter true line = get_or line 10 0
limit_letter false line = 0

-- By this number the lines of two settings are told apart: the sum of these letters, and for a limit that of the letter behind `set limit_` too.
abbrev mark : List ℕ → ℕ
mark line = letters line + limit_letter (letters line == 539) line

-- the mark of a setting's line
abbrev kind : Setting → ℕ
kind (Random words) = 545
kind (Time now) = 555
kind (Local id) = 525
kind (Remote id) = 547
kind (First id) = 537
kind (Orig id) = 546
kind (Retry id) = 561
kind (Addr address) = 494
kind (Validated validated) = 549
kind (Token bytes) = 557
kind (Secret bytes) = 529
kind (LimitInitial packets) = 644
kind (LimitHandshake packets) = 643
kind (LimitData packets) = 639
kind (LimitFailures packets) = 641
kind (Idle limit) = 526
kind (Mtud allowed) = 568
kind (Gso allowed) = 543
kind (Sent count) = 551
kind (Clock seconds) = 528

kind_at : (x : Setting) → mark (setting_line x) ≡ kind x
unfolding setting_line
kind_at (Random words) = refl
kind_at (Time now) = refl
kind_at (Local id) = refl
kind_at (Remote id) = refl
kind_at (First id) = refl
kind_at (Orig id) = refl
kind_at (Retry id) = refl
kind_at (Addr address) = refl
kind_at (Validated validated) = refl
kind_at (Token bytes) = refl
kind_at (Secret bytes) = refl
kind_at (LimitInitial packets) = refl
kind_at (LimitHandshake packets) = refl
kind_at (LimitData packets) = refl
kind_at (LimitFailures packets) = refl
kind_at (Idle limit) = refl
kind_at (Mtud allowed) = refl
kind_at (Gso allowed) = refl
kind_at (Sent count) = refl
kind_at (Clock seconds) = refl

kind_of_text : (side : Side) (text : List ℕ) (x : Setting) → IsNextSetting side text x → mark (text ++ 10 ∷ []) ≡ kind x
kind_of_text side text x h = ap mark h.spelled ∙ kind_at x

-- ---- the reader's lines

pub random_next : (field : List ℕ) (words : RandomWords) → field ≡ random_text words → IsRandom words → (side : Side) → IsNextSetting side (codes "set random " ++ field) (Random words)
unfolding setting_line
random_next field words e h side = record { spelled = spelled_on (codes "set random ") field (random_text words) e; within = h }

pub time_next : (field : List ℕ) (now : ℕ) → field ≡ decimal now → now < 2 ^ 64 → (side : Side) → IsNextSetting side (codes "set time " ++ field) (Time now)
unfolding setting_line
time_next field now e h side = record { spelled = spelled_on (codes "set time ") field (decimal now) e; within = h }

pub local_next : (field id : List ℕ) → field ≡ hex_field id → IsId id → (side : Side) → IsNextSetting side (codes "set local " ++ field) (Local id)
unfolding setting_line
local_next field id e h side = record { spelled = spelled_on (codes "set local ") field (hex_field id) e; within = h }

pub remote_next : (field id : List ℕ) (side : Side) → field ≡ hex_field id → IsRemote side id → IsNextSetting side (codes "set remote " ++ field) (Remote id)
unfolding setting_line
remote_next field id side e h = record { spelled = spelled_on (codes "set remote ") field (hex_field id) e; within = h }

pub first_next : (field id : List ℕ) (side : Side) → field ≡ hex_field id → IsFirst side id → IsNextSetting side (codes "set first " ++ field) (First id)
unfolding setting_line
first_next field id side e h = record { spelled = spelled_on (codes "set first ") field (hex_field id) e; within = h }

pub orig_next : (field id : List ℕ) (side : Side) → field ≡ hex_field id → IsFirst side id → IsNextSetting side (codes "set orig " ++ field) (Orig id)
unfolding setting_line
orig_next field id side e h = record { spelled = spelled_on (codes "set orig ") field (hex_field id) e; within = h }

pub retry_next : (field id : List ℕ) (side : Side) → field ≡ hex_field id → IsFirst side id → IsNextSetting side (codes "set retry " ++ field) (Retry id)
unfolding setting_line
retry_next field id side e h = record { spelled = spelled_on (codes "set retry ") field (hex_field id) e; within = h }

pub addr_next : (field : List ℕ) (address : SocketAddr) → field ≡ address_text address → IsAddress address → (side : Side) → IsNextSetting side (codes "set addr " ++ field) (Addr address)
unfolding setting_line
addr_next field address e h side = record { spelled = spelled_on (codes "set addr ") field (address_text address) e; within = h }

pub validated_next : (field : List ℕ) (validated : Bool) (side : Side) → field ≡ flag_text validated → IsValidated side validated → IsNextSetting side (codes "set validated " ++ field) (Validated validated)
unfolding setting_line
validated_next field validated side e h = record { spelled = spelled_on (codes "set validated ") field (flag_text validated) e; within = h }

pub sent_next : (field : List ℕ) (count : ℕ) (side : Side) → field ≡ decimal count → IsSent side count → IsNextSetting side (codes "set sent " ++ field) (Sent count)
unfolding setting_line
sent_next field count side e h = record { spelled = spelled_on (codes "set sent ") field (decimal count) e; within = h }

pub clock_next : (field : List ℕ) (seconds : ℕ) (side : Side) → field ≡ decimal seconds → IsClock side seconds → IsNextSetting side (codes "set clock " ++ field) (Clock seconds)
unfolding setting_line
clock_next field seconds side e h = record { spelled = spelled_on (codes "set clock ") field (decimal seconds) e; within = h }

pub token_next : (field bytes : List ℕ) (side : Side) → field ≡ hex_field bytes → IsToken side bytes → IsNextSetting side (codes "set token " ++ field) (Token bytes)
unfolding setting_line
token_next field bytes side e h = record { spelled = spelled_on (codes "set token ") field (hex_field bytes) e; within = h }

pub secret_next : (field bytes : List ℕ) → field ≡ hex_field bytes → IsSecret bytes → (side : Side) → IsNextSetting side (codes "set secret " ++ field) (Secret bytes)
unfolding setting_line
secret_next field bytes e h side = record { spelled = spelled_on (codes "set secret ") field (hex_field bytes) e; within = h }

pub limit_initial_next : (field : List ℕ) (packets : ℕ) → field ≡ decimal packets → packets < 2 ^ 64 → (side : Side) → IsNextSetting side (codes "set limit_initial " ++ field) (LimitInitial packets)
unfolding setting_line
limit_initial_next field packets e h side = record { spelled = spelled_on (codes "set limit_initial ") field (decimal packets) e; within = h }

pub limit_handshake_next : (field : List ℕ) (packets : ℕ) → field ≡ decimal packets → packets < 2 ^ 64 → (side : Side) → IsNextSetting side (codes "set limit_handshake " ++ field) (LimitHandshake packets)
unfolding setting_line
limit_handshake_next field packets e h side = record { spelled = spelled_on (codes "set limit_handshake ") field (decimal packets) e; within = h }

pub limit_data_next : (field : List ℕ) (packets : ℕ) → field ≡ decimal packets → packets < 2 ^ 64 → (side : Side) → IsNextSetting side (codes "set limit_data " ++ field) (LimitData packets)
unfolding setting_line
limit_data_next field packets e h side = record { spelled = spelled_on (codes "set limit_data ") field (decimal packets) e; within = h }

pub limit_failures_next : (field : List ℕ) (packets : ℕ) → field ≡ decimal packets → packets < 2 ^ 64 → (side : Side) → IsNextSetting side (codes "set limit_failures " ++ field) (LimitFailures packets)
unfolding setting_line
limit_failures_next field packets e h side = record { spelled = spelled_on (codes "set limit_failures ") field (decimal packets) e; within = h }

pub idle_next : (field : List ℕ) (limit : ℕ) → field ≡ decimal limit → limit < 2 ^ 62 → (side : Side) → IsNextSetting side (codes "set idle " ++ field) (Idle limit)
unfolding setting_line
idle_next field limit e h side = record { spelled = spelled_on (codes "set idle ") field (decimal limit) e; within = h }

pub mtud_next : (field : List ℕ) (allowed : Bool) → field ≡ flag_text allowed → (side : Side) → IsNextSetting side (codes "set mtud " ++ field) (Mtud allowed)
unfolding setting_line
mtud_next field allowed e side = record { spelled = spelled_on (codes "set mtud ") field (flag_text allowed) e; within = tt }

pub gso_next : (field : List ℕ) (allowed : Bool) → field ≡ flag_text allowed → (side : Side) → IsNextSetting side (codes "set gso " ++ field) (Gso allowed)
unfolding setting_line
gso_next field allowed e side = record { spelled = spelled_on (codes "set gso ") field (flag_text allowed) e; within = tt }

-- a line that begins with `set random ` is that of no other setting
pub no_random : (field : List ℕ) → ((words : RandomWords) → IsRandom words → field ≢ random_text words) → (side : Side) (x : Setting) → IsNextSetting side (codes "set random " ++ field) x → ⊥
unfolding setting_line
no_random field none side (Random words) h = none words h.within (field_same (codes "set random ") field (random_text words) h.spelled)
no_random field none side x h = let e : 545 ≡ kind x = kind_of_text side (codes "set random " ++ field) x h in omega (arith, e)

pub no_time : (field : List ℕ) → ((n : ℕ) → n < 2 ^ 64 → field ≢ decimal n) → (side : Side) (x : Setting) → IsNextSetting side (codes "set time " ++ field) x → ⊥
unfolding setting_line
no_time field none side (Time n) h = none n h.within (field_same (codes "set time ") field (decimal n) h.spelled)
no_time field none side x h = let e : 555 ≡ kind x = kind_of_text side (codes "set time " ++ field) x h in omega (arith, e)

pub no_local : (field : List ℕ) → ((id : List ℕ) → IsId id → field ≢ hex_field id) → (side : Side) (x : Setting) → IsNextSetting side (codes "set local " ++ field) x → ⊥
unfolding setting_line
no_local field none side (Local id) h = none id h.within (field_same (codes "set local ") field (hex_field id) h.spelled)
no_local field none side x h = let e : 525 ≡ kind x = kind_of_text side (codes "set local " ++ field) x h in omega (arith, e)

pub no_remote : (field : List ℕ) (side : Side) → ((id : List ℕ) → IsRemote side id → field ≢ hex_field id) → (x : Setting) → IsNextSetting side (codes "set remote " ++ field) x → ⊥
unfolding setting_line
no_remote field side none (Remote id) h = none id h.within (field_same (codes "set remote ") field (hex_field id) h.spelled)
no_remote field side none x h = let e : 547 ≡ kind x = kind_of_text side (codes "set remote " ++ field) x h in omega (arith, e)

pub no_first : (field : List ℕ) (side : Side) → ((id : List ℕ) → IsFirst side id → field ≢ hex_field id) → (x : Setting) → IsNextSetting side (codes "set first " ++ field) x → ⊥
unfolding setting_line
no_first field side none (First id) h = none id h.within (field_same (codes "set first ") field (hex_field id) h.spelled)
no_first field side none x h = let e : 537 ≡ kind x = kind_of_text side (codes "set first " ++ field) x h in omega (arith, e)

pub no_orig : (field : List ℕ) (side : Side) → ((id : List ℕ) → IsFirst side id → field ≢ hex_field id) → (x : Setting) → IsNextSetting side (codes "set orig " ++ field) x → ⊥
unfolding setting_line
no_orig field side none (Orig id) h = none id h.within (field_same (codes "set orig ") field (hex_field id) h.spelled)
no_orig field side none x h = let e : 546 ≡ kind x = kind_of_text side (codes "set orig " ++ field) x h in omega (arith, e)

pub no_retry : (field : List ℕ) (side : Side) → ((id : List ℕ) → IsFirst side id → field ≢ hex_field id) → (x : Setting) → IsNextSetting side (codes "set retry " ++ field) x → ⊥
unfolding setting_line
no_retry field side none (Retry id) h = none id h.within (field_same (codes "set retry ") field (hex_field id) h.spelled)
no_retry field side none x h = let e : 561 ≡ kind x = kind_of_text side (codes "set retry " ++ field) x h in omega (arith, e)

pub no_addr : (field : List ℕ) → ((a : SocketAddr) → IsAddress a → field ≢ address_text a) → (side : Side) (x : Setting) → IsNextSetting side (codes "set addr " ++ field) x → ⊥
unfolding setting_line
no_addr field none side (Addr a) h = none a h.within (field_same (codes "set addr ") field (address_text a) h.spelled)
no_addr field none side x h = let e : 494 ≡ kind x = kind_of_text side (codes "set addr " ++ field) x h in omega (arith, e)

pub no_validated : (field : List ℕ) (side : Side) → ((validated : Bool) → IsValidated side validated → field ≢ flag_text validated) → (x : Setting) → IsNextSetting side (codes "set validated " ++ field) x → ⊥
unfolding setting_line
no_validated field side none (Validated validated) h = none validated h.within (field_same (codes "set validated ") field (flag_text validated) h.spelled)
no_validated field side none x h = let e : 549 ≡ kind x = kind_of_text side (codes "set validated " ++ field) x h in omega (arith, e)

pub no_sent : (field : List ℕ) (side : Side) → ((count : ℕ) → IsSent side count → field ≢ decimal count) → (x : Setting) → IsNextSetting side (codes "set sent " ++ field) x → ⊥
unfolding setting_line
no_sent field side none (Sent count) h = none count h.within (field_same (codes "set sent ") field (decimal count) h.spelled)
no_sent field side none x h = let e : 551 ≡ kind x = kind_of_text side (codes "set sent " ++ field) x h in omega (arith, e)

pub no_clock : (field : List ℕ) (side : Side) → ((seconds : ℕ) → IsClock side seconds → field ≢ decimal seconds) → (x : Setting) → IsNextSetting side (codes "set clock " ++ field) x → ⊥
unfolding setting_line
no_clock field side none (Clock seconds) h = none seconds h.within (field_same (codes "set clock ") field (decimal seconds) h.spelled)
no_clock field side none x h = let e : 528 ≡ kind x = kind_of_text side (codes "set clock " ++ field) x h in omega (arith, e)

pub no_token : (field : List ℕ) (side : Side) → ((bytes : List ℕ) → IsToken side bytes → field ≢ hex_field bytes) → (x : Setting) → IsNextSetting side (codes "set token " ++ field) x → ⊥
unfolding setting_line
no_token field side none (Token bytes) h = none bytes h.within (field_same (codes "set token ") field (hex_field bytes) h.spelled)
no_token field side none x h = let e : 557 ≡ kind x = kind_of_text side (codes "set token " ++ field) x h in omega (arith, e)

pub no_secret : (field : List ℕ) → ((bytes : List ℕ) → IsSecret bytes → field ≢ hex_field bytes) → (side : Side) (x : Setting) → IsNextSetting side (codes "set secret " ++ field) x → ⊥
unfolding setting_line
no_secret field none side (Secret bytes) h = none bytes h.within (field_same (codes "set secret ") field (hex_field bytes) h.spelled)
no_secret field none side x h = let e : 529 ≡ kind x = kind_of_text side (codes "set secret " ++ field) x h in omega (arith, e)

pub no_limit_initial : (field : List ℕ) → ((n : ℕ) → n < 2 ^ 64 → field ≢ decimal n) → (side : Side) (x : Setting) → IsNextSetting side (codes "set limit_initial " ++ field) x → ⊥
unfolding setting_line
no_limit_initial field none side (LimitInitial n) h = none n h.within (field_same (codes "set limit_initial ") field (decimal n) h.spelled)
no_limit_initial field none side x h = let e : 644 ≡ kind x = kind_of_text side (codes "set limit_initial " ++ field) x h in omega (arith, e)

pub no_limit_handshake : (field : List ℕ) → ((n : ℕ) → n < 2 ^ 64 → field ≢ decimal n) → (side : Side) (x : Setting) → IsNextSetting side (codes "set limit_handshake " ++ field) x → ⊥
unfolding setting_line
no_limit_handshake field none side (LimitHandshake n) h = none n h.within (field_same (codes "set limit_handshake ") field (decimal n) h.spelled)
no_limit_handshake field none side x h = let e : 643 ≡ kind x = kind_of_text side (codes "set limit_handshake " ++ field) x h in omega (arith, e)

pub no_limit_data : (field : List ℕ) → ((n : ℕ) → n < 2 ^ 64 → field ≢ decimal n) → (side : Side) (x : Setting) → IsNextSetting side (codes "set limit_data " ++ field) x → ⊥
unfolding setting_line
no_limit_data field none side (LimitData n) h = none n h.within (field_same (codes "set limit_data ") field (decimal n) h.spelled)
no_limit_data field none side x h = let e : 639 ≡ kind x = kind_of_text side (codes "set limit_data " ++ field) x h in omega (arith, e)

pub no_limit_failures : (field : List ℕ) → ((n : ℕ) → n < 2 ^ 64 → field ≢ decimal n) → (side : Side) (x : Setting) → IsNextSetting side (codes "set limit_failures " ++ field) x → ⊥
unfolding setting_line
no_limit_failures field none side (LimitFailures n) h = none n h.within (field_same (codes "set limit_failures ") field (decimal n) h.spelled)
no_limit_failures field none side x h = let e : 641 ≡ kind x = kind_of_text side (codes "set limit_failures " ++ field) x h in omega (arith, e)

pub no_idle : (field : List ℕ) → ((n : ℕ) → n < 2 ^ 62 → field ≢ decimal n) → (side : Side) (x : Setting) → IsNextSetting side (codes "set idle " ++ field) x → ⊥
unfolding setting_line
no_idle field none side (Idle n) h = none n h.within (field_same (codes "set idle ") field (decimal n) h.spelled)
no_idle field none side x h = let e : 526 ≡ kind x = kind_of_text side (codes "set idle " ++ field) x h in omega (arith, e)

pub no_mtud : (field : List ℕ) → ((flag : Bool) → field ≢ flag_text flag) → (side : Side) (x : Setting) → IsNextSetting side (codes "set mtud " ++ field) x → ⊥
unfolding setting_line
no_mtud field none side (Mtud flag) h = none flag (field_same (codes "set mtud ") field (flag_text flag) h.spelled)
no_mtud field none side x h = let e : 568 ≡ kind x = kind_of_text side (codes "set mtud " ++ field) x h in omega (arith, e)

pub no_gso : (field : List ℕ) → ((flag : Bool) → field ≢ flag_text flag) → (side : Side) (x : Setting) → IsNextSetting side (codes "set gso " ++ field) x → ⊥
unfolding setting_line
no_gso field none side (Gso flag) h = none flag (field_same (codes "set gso ") field (flag_text flag) h.spelled)
no_gso field none side x h = let e : 543 ≡ kind x = kind_of_text side (codes "set gso " ++ field) x h in omega (arith, e)

-- a text with none of the words is the line of no setting of the keys' limits
pub no_keys : (text : List ℕ) → ((rest : List ℕ) → text ≢ codes "set limit_initial " ++ rest) → ((rest : List ℕ) → text ≢ codes "set limit_handshake " ++ rest) → ((rest : List ℕ) → text ≢ codes "set limit_data " ++ rest) → ((rest : List ℕ) → text ≢ codes "set limit_failures " ++ rest)
    → (side : Side) (x : Setting) → IsOfKeys x → IsNextSetting side text x → ⊥
unfolding setting_line
no_keys text initials handshakes datas failures side (LimitInitial packets) of h = initials (decimal packets) (words_and_field (codes "set limit_initial ") text (decimal packets) h.spelled)
no_keys text initials handshakes datas failures side (LimitHandshake packets) of h = handshakes (decimal packets) (words_and_field (codes "set limit_handshake ") text (decimal packets) h.spelled)
no_keys text initials handshakes datas failures side (LimitData packets) of h = datas (decimal packets) (words_and_field (codes "set limit_data ") text (decimal packets) h.spelled)
no_keys text initials handshakes datas failures side (LimitFailures packets) of h = failures (decimal packets) (words_and_field (codes "set limit_failures ") text (decimal packets) h.spelled)
no_keys text initials handshakes datas failures side _ of h = absurd of

-- a text with none of the words is the line of no setting of servers alone
pub no_server : (text : List ℕ) → ((rest : List ℕ) → text ≢ codes "set orig " ++ rest) → ((rest : List ℕ) → text ≢ codes "set retry " ++ rest) → ((rest : List ℕ) → text ≢ codes "set validated " ++ rest) → ((rest : List ℕ) → text ≢ codes "set sent " ++ rest) → ((rest : List ℕ) → text ≢ codes "set clock " ++ rest)
    → (side : Side) (x : Setting) → IsOfServer x → IsNextSetting side text x → ⊥
unfolding setting_line
no_server text origs retries validateds sents clocks side (Orig id) of h = origs (hex_field id) (words_and_field (codes "set orig ") text (hex_field id) h.spelled)
no_server text origs retries validateds sents clocks side (Retry id) of h = retries (hex_field id) (words_and_field (codes "set retry ") text (hex_field id) h.spelled)
no_server text origs retries validateds sents clocks side (Validated validated) of h = validateds (flag_text validated) (words_and_field (codes "set validated ") text (flag_text validated) h.spelled)
no_server text origs retries validateds sents clocks side (Sent count) of h = sents (decimal count) (words_and_field (codes "set sent ") text (decimal count) h.spelled)
no_server text origs retries validateds sents clocks side (Clock seconds) of h = clocks (decimal seconds) (words_and_field (codes "set clock ") text (decimal seconds) h.spelled)
no_server text origs retries validateds sents clocks side _ of h = absurd of

-- a text with none of the words is the line of no setting of the transport
pub no_transport : (text : List ℕ) → ((rest : List ℕ) → text ≢ codes "set idle " ++ rest) → ((rest : List ℕ) → text ≢ codes "set mtud " ++ rest) → ((rest : List ℕ) → text ≢ codes "set gso " ++ rest)
    → (side : Side) (x : Setting) → IsOfTransport x → IsNextSetting side text x → ⊥
unfolding setting_line
no_transport text idles mtuds gsos side (Idle limit) of h = idles (decimal limit) (words_and_field (codes "set idle ") text (decimal limit) h.spelled)
no_transport text idles mtuds gsos side (Mtud allowed) of h = mtuds (flag_text allowed) (words_and_field (codes "set mtud ") text (flag_text allowed) h.spelled)
no_transport text idles mtuds gsos side (Gso allowed) of h = gsos (flag_text allowed) (words_and_field (codes "set gso ") text (flag_text allowed) h.spelled)
no_transport text idles mtuds gsos side _ of h = absurd of

-- what is read of a text as a setting is one of some settings too, and what isn't is none
pub read_of : (Of : Setting → Type 0) (side : Side) (text : List ℕ) (r : Option Setting) → IsSettingRead side text r → IsReadOf Of side text r
read_of Of side text None h = λ x of n. h x n
read_of Of side text (Some x) h = h

-- a text with none of the words, and of which the other readers read nothing, is the line of no setting
no_set_word : (side : Side) (text : List ℕ) → ((rest : List ℕ) → text ≢ codes "set random " ++ rest) → ((rest : List ℕ) → text ≢ codes "set time " ++ rest) → ((rest : List ℕ) → text ≢ codes "set local " ++ rest) → ((rest : List ℕ) → text ≢ codes "set remote " ++ rest)
    → ((rest : List ℕ) → text ≢ codes "set first " ++ rest) → ((rest : List ℕ) → text ≢ codes "set addr " ++ rest) → ((rest : List ℕ) → text ≢ codes "set token " ++ rest) → ((rest : List ℕ) → text ≢ codes "set secret " ++ rest)
    → IsReadOf IsOfKeys side text None → IsReadOf IsOfServer side text None → IsReadOf IsOfTransport side text None
    → (x : Setting) → IsNextSetting side text x → ⊥
unfolding setting_line
no_set_word side text randoms times locals remotes firsts addrs tokens secrets keys servers transports (Random words) h = randoms (random_text words) (words_and_field (codes "set random ") text (random_text words) h.spelled)
no_set_word side text randoms times locals remotes firsts addrs tokens secrets keys servers transports (Time now) h = times (decimal now) (words_and_field (codes "set time ") text (decimal now) h.spelled)
no_set_word side text randoms times locals remotes firsts addrs tokens secrets keys servers transports (Local id) h = locals (hex_field id) (words_and_field (codes "set local ") text (hex_field id) h.spelled)
no_set_word side text randoms times locals remotes firsts addrs tokens secrets keys servers transports (Remote id) h = remotes (hex_field id) (words_and_field (codes "set remote ") text (hex_field id) h.spelled)
no_set_word side text randoms times locals remotes firsts addrs tokens secrets keys servers transports (First id) h = firsts (hex_field id) (words_and_field (codes "set first ") text (hex_field id) h.spelled)
no_set_word side text randoms times locals remotes firsts addrs tokens secrets keys servers transports (Addr address) h = addrs (address_text address) (words_and_field (codes "set addr ") text (address_text address) h.spelled)
no_set_word side text randoms times locals remotes firsts addrs tokens secrets keys servers transports (Token bytes) h = tokens (hex_field bytes) (words_and_field (codes "set token ") text (hex_field bytes) h.spelled)
no_set_word side text randoms times locals remotes firsts addrs tokens secrets keys servers transports (Secret bytes) h = secrets (hex_field bytes) (words_and_field (codes "set secret ") text (hex_field bytes) h.spelled)
no_set_word side text randoms times locals remotes firsts addrs tokens secrets keys servers transports (LimitInitial packets) h = keys (LimitInitial packets) tt h
no_set_word side text randoms times locals remotes firsts addrs tokens secrets keys servers transports (LimitHandshake packets) h = keys (LimitHandshake packets) tt h
no_set_word side text randoms times locals remotes firsts addrs tokens secrets keys servers transports (LimitData packets) h = keys (LimitData packets) tt h
no_set_word side text randoms times locals remotes firsts addrs tokens secrets keys servers transports (LimitFailures packets) h = keys (LimitFailures packets) tt h
no_set_word side text randoms times locals remotes firsts addrs tokens secrets keys servers transports (Orig id) h = servers (Orig id) tt h
no_set_word side text randoms times locals remotes firsts addrs tokens secrets keys servers transports (Retry id) h = servers (Retry id) tt h
no_set_word side text randoms times locals remotes firsts addrs tokens secrets keys servers transports (Validated validated) h = servers (Validated validated) tt h
no_set_word side text randoms times locals remotes firsts addrs tokens secrets keys servers transports (Sent count) h = servers (Sent count) tt h
no_set_word side text randoms times locals remotes firsts addrs tokens secrets keys servers transports (Clock seconds) h = servers (Clock seconds) tt h
no_set_word side text randoms times locals remotes firsts addrs tokens secrets keys servers transports (Idle limit) h = transports (Idle limit) tt h
no_set_word side text randoms times locals remotes firsts addrs tokens secrets keys servers transports (Mtud allowed) h = transports (Mtud allowed) tt h
no_set_word side text randoms times locals remotes firsts addrs tokens secrets keys servers transports (Gso allowed) h = transports (Gso allowed) tt h

-- behind the other words the reader of the transport's settings reads each setting
pub last_read : (side : Side) (text : List ℕ) → ((rest : List ℕ) → text ≢ codes "set random " ++ rest) → ((rest : List ℕ) → text ≢ codes "set time " ++ rest) → ((rest : List ℕ) → text ≢ codes "set local " ++ rest) → ((rest : List ℕ) → text ≢ codes "set remote " ++ rest)
    → ((rest : List ℕ) → text ≢ codes "set first " ++ rest) → ((rest : List ℕ) → text ≢ codes "set addr " ++ rest) → ((rest : List ℕ) → text ≢ codes "set token " ++ rest) → ((rest : List ℕ) → text ≢ codes "set secret " ++ rest)
    → IsReadOf IsOfKeys side text None → IsReadOf IsOfServer side text None → (r : Option Setting) → IsReadOf IsOfTransport side text r
    → IsSettingRead side text r
last_read side text randoms times locals remotes firsts addrs tokens secrets keys servers None h = no_set_word side text randoms times locals remotes firsts addrs tokens secrets keys servers h
last_read side text randoms times locals remotes firsts addrs tokens secrets keys servers (Some x) h = h

-- ---- lines and settings

pub remote_bytes : (side : Side) (id : List ℕ) → IsRemote side id → IsId id
remote_bytes Client id h = h.0
remote_bytes Server id h = h

first_bytes : (side : Side) (id : List ℕ) → IsFirst side id → IsId id
first_bytes Client id h = absurd h
first_bytes Server id h = h

token_bytes : (side : Side) (bytes : List ℕ) → IsToken side bytes → IsBytes bytes
token_bytes Client bytes h = h
token_bytes Server bytes h = absurd h

-- a remote id by its side
client_least : (side : Side) (id : List ℕ) → side ≡ Client → IsRemote side id → 8 ≤ length id
client_least Client id e h = h.1
client_least Server id e h = cc e

pub client_remote : (side : Side) (id : List ℕ) → side ≡ Client → IsId id → 8 ≤ length id → IsRemote side id
client_remote Client id e h k = (h, k)
client_remote Server id e h k = h

pub server_remote : (side : Side) (id : List ℕ) → side ≡ Server → IsId id → IsRemote side id
server_remote Client id e h = cc e
server_remote Server id e h = h

-- a field tells how many bytes it spells
pub hex_length : (field bytes other : List ℕ) → field ≡ hex_field bytes → IsBytes bytes → IsBytes other → field ≡ hex_field other → length bytes ≡ length other
hex_length field bytes other e h k is = ap length (hex_field_injective bytes other h k (sym e ∙ is))

-- a client's remote id isn't short
pub remote_short : (field id : List ℕ) (side : Side) → side ≡ Client → field ≡ hex_field id → IsId id → length id < 8 → (x : Setting) → IsNextSetting side (codes "set remote " ++ field) x → ⊥
remote_short field id side is e h short = no_remote field side (λ other k f. omega (arith, client_least side other is k, hex_length field id other e h.0 (remote_bytes side other k).0 f, short))

-- a seed's field is longer than the word that names zeros
seed_size : (bytes : List ℕ) → IsSeed bytes → length (hex_field bytes) ≡ 64
seed_size [] h = absurd (omega (arith, h.1))
seed_size (b ∷ bytes) h = omega (arith, length-encode_with lower_digits (b ∷ bytes), h.1)

random_injective : (a b : RandomWords) → IsRandom a → IsRandom b → random_text a ≡ random_text b → a ≡ b
random_injective Zeros Zeros h k e = refl
random_injective Zeros (Seed bytes) h k e = absurd (omega (arith, seed_size bytes k, ap length e))
random_injective (Seed bytes) Zeros h k e = absurd (omega (arith, seed_size bytes h, ap length e))
random_injective (Seed a) (Seed b) h k e = ap Seed (hex_field_injective a b h.0 k.0 e)

flag_injective : (a b : Bool) → flag_text a ≡ flag_text b → a ≡ b
flag_injective false false e = refl
flag_injective false true e = absurd (omega (arith, ap (λ (z : List ℕ). get_or z 0 0) e))
flag_injective true false e = absurd (omega (arith, ap (λ (z : List ℕ). get_or z 0 0) e))
flag_injective true true e = refl

kinds : (x y : Setting) → setting_line x ≡ setting_line y → kind x ≡ kind y
kinds x y e = sym (kind_at x) ∙ ap mark e ∙ kind_at y

-- a number of tokens, and a time of a clock, have 64 bits
sent_small : (side : Side) (n : ℕ) → IsSent side n → n < 2 ^ 64
sent_small Client n h = absurd h
sent_small Server n h = omega (arith, h)

clock_small : (side : Side) (n : ℕ) → IsClock side n → n < 2 ^ 64
clock_small Client n h = absurd h
clock_small Server n h = h

-- a setting's line is that of no other setting
pub setting_line_injective : (side : Side) (x y : Setting) → IsSetting side x → IsSetting side y → setting_line x ≡ setting_line y → x ≡ y
unfolding setting_line
setting_line_injective side (Random a) (Random b) h k e = ap Random (random_injective a b h k (fields_same_behind (codes "set random ") (random_text a) (random_text b) e))
setting_line_injective side (Time n) (Time n') h k e = ap Time (decimal_injective n n' h k (fields_same_behind (codes "set time ") (decimal n) (decimal n') e))
setting_line_injective side (Local id) (Local id') h k e = ap Local (hex_field_injective id id' h.0 k.0 (fields_same_behind (codes "set local ") (hex_field id) (hex_field id') e))
setting_line_injective side (Remote id) (Remote id') h k e =
    ap Remote (hex_field_injective id id' (remote_bytes side id h).0 (remote_bytes side id' k).0 (fields_same_behind (codes "set remote ") (hex_field id) (hex_field id') e))
setting_line_injective side (First id) (First id') h k e =
    ap First (hex_field_injective id id' (first_bytes side id h).0 (first_bytes side id' k).0 (fields_same_behind (codes "set first ") (hex_field id) (hex_field id') e))
setting_line_injective side (Orig id) (Orig id') h k e =
    ap Orig (hex_field_injective id id' (first_bytes side id h).0 (first_bytes side id' k).0 (fields_same_behind (codes "set orig ") (hex_field id) (hex_field id') e))
setting_line_injective side (Retry id) (Retry id') h k e =
    ap Retry (hex_field_injective id id' (first_bytes side id h).0 (first_bytes side id' k).0 (fields_same_behind (codes "set retry ") (hex_field id) (hex_field id') e))
setting_line_injective side (Addr a) (Addr a') h k e = ap Addr (address_injective a a' h k (fields_same_behind (codes "set addr ") (address_text a) (address_text a') e))
setting_line_injective side (Validated a) (Validated b) h k e = ap Validated (flag_injective a b (fields_same_behind (codes "set validated ") (flag_text a) (flag_text b) e))
setting_line_injective side (Sent a) (Sent b) h k e = ap Sent (decimal_injective a b (sent_small side a h) (sent_small side b k) (fields_same_behind (codes "set sent ") (decimal a) (decimal b) e))
setting_line_injective side (Clock a) (Clock b) h k e = ap Clock (decimal_injective a b (clock_small side a h) (clock_small side b k) (fields_same_behind (codes "set clock ") (decimal a) (decimal b) e))
setting_line_injective side (Token bytes) (Token bytes') h k e =
    ap Token (hex_field_injective bytes bytes' (token_bytes side bytes h) (token_bytes side bytes' k) (fields_same_behind (codes "set token ") (hex_field bytes) (hex_field bytes') e))
setting_line_injective side (Secret bytes) (Secret bytes') h k e = ap Secret (hex_field_injective bytes bytes' h.0 k.0 (fields_same_behind (codes "set secret ") (hex_field bytes) (hex_field bytes') e))
setting_line_injective side (LimitInitial n) (LimitInitial n') h k e = ap LimitInitial (decimal_injective n n' h k (fields_same_behind (codes "set limit_initial ") (decimal n) (decimal n') e))
setting_line_injective side (LimitHandshake n) (LimitHandshake n') h k e = ap LimitHandshake (decimal_injective n n' h k (fields_same_behind (codes "set limit_handshake ") (decimal n) (decimal n') e))
setting_line_injective side (LimitData n) (LimitData n') h k e = ap LimitData (decimal_injective n n' h k (fields_same_behind (codes "set limit_data ") (decimal n) (decimal n') e))
setting_line_injective side (LimitFailures n) (LimitFailures n') h k e = ap LimitFailures (decimal_injective n n' h k (fields_same_behind (codes "set limit_failures ") (decimal n) (decimal n') e))
setting_line_injective side (Idle n) (Idle n') h k e = ap Idle (decimal_injective n n' (omega (arith, h)) (omega (arith, k)) (fields_same_behind (codes "set idle ") (decimal n) (decimal n') e))
setting_line_injective side (Mtud a) (Mtud b) h k e = ap Mtud (flag_injective a b (fields_same_behind (codes "set mtud ") (flag_text a) (flag_text b) e))
setting_line_injective side (Gso a) (Gso b) h k e = ap Gso (flag_injective a b (fields_same_behind (codes "set gso ") (flag_text a) (flag_text b) e))
setting_line_injective side x y h k e = absurd (omega (arith, kinds x y e))

-- nor is it an input's: its word is `set`, with a space behind it
setting_word : (x : Setting) → get_or (setting_line x) 0 0 + get_or (setting_line x) 3 0 ≡ 147
unfolding setting_line
setting_word (Random words) = refl
setting_word (Time now) = refl
setting_word (Local id) = refl
setting_word (Remote id) = refl
setting_word (First id) = refl
setting_word (Orig id) = refl
setting_word (Retry id) = refl
setting_word (Addr address) = refl
setting_word (Validated validated) = refl
setting_word (Token bytes) = refl
setting_word (Secret bytes) = refl
setting_word (LimitInitial packets) = refl
setting_word (LimitHandshake packets) = refl
setting_word (LimitData packets) = refl
setting_word (LimitFailures packets) = refl
setting_word (Idle limit) = refl
setting_word (Mtud allowed) = refl
setting_word (Gso allowed) = refl
setting_word (Sent count) = refl
setting_word (Clock seconds) = refl

pub setting_no_input : (x : Setting) (i : Input) → setting_line x ≢ input_line i
setting_no_input x i e = no_set i (ap (λ (z : List ℕ). get_or z 0 0 + get_or z 3 0) (sym e) ∙ setting_word x)

-- a setting's line is a text, and LF
pub setting_ends : (x : Setting) → (text : List ℕ) × (setting_line x ≡ text ++ 10 ∷ [])
unfolding setting_line
setting_ends (Random words) = (codes "set random " ++ random_text words, sym (append_assoc (codes "set random ") (random_text words) (10 ∷ [])))
setting_ends (Time now) = (codes "set time " ++ decimal now, sym (append_assoc (codes "set time ") (decimal now) (10 ∷ [])))
setting_ends (Local id) = (codes "set local " ++ hex_field id, sym (append_assoc (codes "set local ") (hex_field id) (10 ∷ [])))
setting_ends (Remote id) = (codes "set remote " ++ hex_field id, sym (append_assoc (codes "set remote ") (hex_field id) (10 ∷ [])))
setting_ends (First id) = (codes "set first " ++ hex_field id, sym (append_assoc (codes "set first ") (hex_field id) (10 ∷ [])))
setting_ends (Orig id) = (codes "set orig " ++ hex_field id, sym (append_assoc (codes "set orig ") (hex_field id) (10 ∷ [])))
setting_ends (Retry id) = (codes "set retry " ++ hex_field id, sym (append_assoc (codes "set retry ") (hex_field id) (10 ∷ [])))
setting_ends (Addr address) = (codes "set addr " ++ address_text address, sym (append_assoc (codes "set addr ") (address_text address) (10 ∷ [])))
setting_ends (Validated validated) = (codes "set validated " ++ flag_text validated, sym (append_assoc (codes "set validated ") (flag_text validated) (10 ∷ [])))
setting_ends (Token bytes) = (codes "set token " ++ hex_field bytes, sym (append_assoc (codes "set token ") (hex_field bytes) (10 ∷ [])))
setting_ends (Secret bytes) = (codes "set secret " ++ hex_field bytes, sym (append_assoc (codes "set secret ") (hex_field bytes) (10 ∷ [])))
setting_ends (LimitInitial packets) = (codes "set limit_initial " ++ decimal packets, sym (append_assoc (codes "set limit_initial ") (decimal packets) (10 ∷ [])))
setting_ends (LimitHandshake packets) = (codes "set limit_handshake " ++ decimal packets, sym (append_assoc (codes "set limit_handshake ") (decimal packets) (10 ∷ [])))
setting_ends (LimitData packets) = (codes "set limit_data " ++ decimal packets, sym (append_assoc (codes "set limit_data ") (decimal packets) (10 ∷ [])))
setting_ends (LimitFailures packets) = (codes "set limit_failures " ++ decimal packets, sym (append_assoc (codes "set limit_failures ") (decimal packets) (10 ∷ [])))
setting_ends (Idle limit) = (codes "set idle " ++ decimal limit, sym (append_assoc (codes "set idle ") (decimal limit) (10 ∷ [])))
setting_ends (Mtud allowed) = (codes "set mtud " ++ flag_text allowed, sym (append_assoc (codes "set mtud ") (flag_text allowed) (10 ∷ [])))
setting_ends (Gso allowed) = (codes "set gso " ++ flag_text allowed, sym (append_assoc (codes "set gso ") (flag_text allowed) (10 ∷ [])))
setting_ends (Sent count) = (codes "set sent " ++ decimal count, sym (append_assoc (codes "set sent ") (decimal count) (10 ∷ [])))
setting_ends (Clock seconds) = (codes "set clock " ++ decimal seconds, sym (append_assoc (codes "set clock ") (decimal seconds) (10 ∷ [])))

-- a side's line is that of no other side
pub side_line_injective : (a b : Side) → side_line a ≡ side_line b → a ≡ b
unfolding side_line
side_line_injective Client Client e = refl
side_line_injective Client Server e = absurd (omega (arith, ap (λ (z : List ℕ). get_or z 9 0) e))
side_line_injective Server Client e = absurd (omega (arith, ap (λ (z : List ℕ). get_or z 9 0) e))
side_line_injective Server Server e = refl
