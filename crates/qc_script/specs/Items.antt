-- What a line behind a script's first says: a setting or an input.
use Rattle.std.specs.Prelude.{◌≡◌, ℕ, ◌^◌, ◌<◌, List, [], ◌∷◌, ◌++◌, codes, Option, Some, None}
use Rattle.std.specs.Fmt.{decimal}
use Rattle.qc_base.specs.declared.side.Side.{Side}
use Rattle.qc_state.specs.declared.input.Input.{Input}
use Rattle.qc_script.specs.declared.settings.Settings.{Settings}
use Rattle.qc_script.specs.declared.settings.Setting.{Setting}
use Rattle.qc_script.specs.declared.settings.Setting.TheVariants.{Random, Time, Local, Remote, First, Addr, Token, Secret, LimitInitial, LimitHandshake, LimitData, LimitFailures, Idle, Mtud, Gso, Orig, Retry, Validated, Sent, Clock}
use Rattle.qc_script.specs.declared.items.Item.{Item}
use Rattle.qc_script.specs.declared.items.Item.TheVariants as It
use Rattle.qc_script.specs.Fields.{hex_field, address_text, flag_text, IsAddress}
use Rattle.qc_script.specs.Script.{random_text, IsRandom, IsId, IsRemote, IsFirst, IsValidated, IsSent, IsClock, IsToken, IsSecret, IsWithin, input_line}

-- the line of a setting
unfoldable pub setting_line : Setting → List ℕ
setting_line (Random words) = codes "set random " ++ (random_text words ++ 10 ∷ [])
setting_line (Time now) = codes "set time " ++ (decimal now ++ 10 ∷ [])
setting_line (Local id) = codes "set local " ++ (hex_field id ++ 10 ∷ [])
setting_line (Remote id) = codes "set remote " ++ (hex_field id ++ 10 ∷ [])
setting_line (First id) = codes "set first " ++ (hex_field id ++ 10 ∷ [])
setting_line (Orig id) = codes "set orig " ++ (hex_field id ++ 10 ∷ [])
setting_line (Retry id) = codes "set retry " ++ (hex_field id ++ 10 ∷ [])
setting_line (Addr address) = codes "set addr " ++ (address_text address ++ 10 ∷ [])
setting_line (Validated validated) = codes "set validated " ++ (flag_text validated ++ 10 ∷ [])
setting_line (Token bytes) = codes "set token " ++ (hex_field bytes ++ 10 ∷ [])
setting_line (Secret bytes) = codes "set secret " ++ (hex_field bytes ++ 10 ∷ [])
setting_line (LimitInitial packets) = codes "set limit_initial " ++ (decimal packets ++ 10 ∷ [])
setting_line (LimitHandshake packets) = codes "set limit_handshake " ++ (decimal packets ++ 10 ∷ [])
setting_line (LimitData packets) = codes "set limit_data " ++ (decimal packets ++ 10 ∷ [])
setting_line (LimitFailures packets) = codes "set limit_failures " ++ (decimal packets ++ 10 ∷ [])
setting_line (Idle limit) = codes "set idle " ++ (decimal limit ++ 10 ∷ [])
setting_line (Mtud allowed) = codes "set mtud " ++ (flag_text allowed ++ 10 ∷ [])
setting_line (Gso allowed) = codes "set gso " ++ (flag_text allowed ++ 10 ∷ [])
setting_line (Sent count) = codes "set sent " ++ (decimal count ++ 10 ∷ [])
setting_line (Clock seconds) = codes "set clock " ++ (decimal seconds ++ 10 ∷ [])

-- what a setting says lies within its bounds on this side
abbrev pub IsSetting : Side → Setting → Type 0
IsSetting side (Random words) = IsRandom words
IsSetting side (Time now) = now < 2 ^ 64
IsSetting side (Local id) = IsId id
IsSetting side (Remote id) = IsRemote side id
IsSetting side (First id) = IsFirst side id
IsSetting side (Orig id) = IsFirst side id
IsSetting side (Retry id) = IsFirst side id
IsSetting side (Addr address) = IsAddress address
IsSetting side (Validated validated) = IsValidated side validated
IsSetting side (Token bytes) = IsToken side bytes
IsSetting side (Secret bytes) = IsSecret bytes
IsSetting side (LimitInitial packets) = packets < 2 ^ 64
IsSetting side (LimitHandshake packets) = packets < 2 ^ 64
IsSetting side (LimitData packets) = packets < 2 ^ 64
IsSetting side (LimitFailures packets) = packets < 2 ^ 64
IsSetting side (Idle limit) = limit < 2 ^ 62
IsSetting side (Mtud allowed) = Unit {0}
IsSetting side (Gso allowed) = Unit {0}
IsSetting side (Sent count) = IsSent side count
IsSetting side (Clock seconds) = IsClock side seconds

-- this text and LF is the line of this setting
pub record IsNextSetting (side : Side) (text : List ℕ) (setting : Setting) : Type 0 where
  pub spelled : text ++ 10 ∷ [] ≡ setting_line setting
  pub within : IsSetting side setting

-- what a reader may find of this text: its setting, or nothing where it and LF are the line of none
abbrev pub IsSettingRead : Side → List ℕ → Option Setting → Type 0
IsSettingRead side text None = (setting : Setting) → IsNextSetting side text setting → ⊥
IsSettingRead side text (Some setting) = IsNextSetting side text setting

-- a setting of the keys' limits
abbrev pub IsOfKeys : Setting → Type 0
IsOfKeys (LimitInitial packets) = Unit {0}
IsOfKeys (LimitHandshake packets) = Unit {0}
IsOfKeys (LimitData packets) = Unit {0}
IsOfKeys (LimitFailures packets) = Unit {0}
IsOfKeys _ = ⊥

-- a setting of servers alone, but for the id of the client's first packets
abbrev pub IsOfServer : Setting → Type 0
IsOfServer (Orig id) = Unit {0}
IsOfServer (Retry id) = Unit {0}
IsOfServer (Validated validated) = Unit {0}
IsOfServer (Sent count) = Unit {0}
IsOfServer (Clock seconds) = Unit {0}
IsOfServer _ = ⊥

-- a setting of the transport's configuration
abbrev pub IsOfTransport : Setting → Type 0
IsOfTransport (Idle limit) = Unit {0}
IsOfTransport (Mtud allowed) = Unit {0}
IsOfTransport (Gso allowed) = Unit {0}
IsOfTransport _ = ⊥

-- what a reader of some settings may find of this text: its setting, or nothing where it and LF are the line of none of them
abbrev pub IsReadOf : (Of : Setting → Type 0) → Side → List ℕ → Option Setting → Type 0
IsReadOf Of side text None = (setting : Setting) → Of setting → IsNextSetting side text setting → ⊥
IsReadOf Of side text (Some setting) = IsNextSetting side text setting

-- the place of a setting's line in the order of set lines; the side's line has place 0
abbrev pub setting_place : Setting → ℕ
setting_place (Random words) = 1
setting_place (Time now) = 2
setting_place (Local id) = 3
setting_place (Remote id) = 4
setting_place (First id) = 5
setting_place (Orig id) = 6
setting_place (Retry id) = 7
setting_place (Addr address) = 8
setting_place (Validated validated) = 9
setting_place (Token bytes) = 10
setting_place (Secret bytes) = 11
setting_place (LimitInitial packets) = 12
setting_place (LimitHandshake packets) = 13
setting_place (LimitData packets) = 14
setting_place (LimitFailures packets) = 15
setting_place (Idle limit) = 16
setting_place (Mtud allowed) = 17
setting_place (Gso allowed) = 18
setting_place (Sent count) = 19
setting_place (Clock seconds) = 20

-- the settings with this one among them
abbrev pub with_setting : Settings → Setting → Settings
with_setting s (Random words) = record s { random = Some words }
with_setting s (Time now) = record s { time = Some now }
with_setting s (Local id) = record s { local = Some id }
with_setting s (Remote id) = record s { remote = Some id }
with_setting s (First id) = record s { first = Some id }
with_setting s (Orig id) = record s { orig = Some id }
with_setting s (Retry id) = record s { retry = Some id }
with_setting s (Addr address) = record s { addr = Some address }
with_setting s (Validated validated) = record s { validated = Some validated }
with_setting s (Token bytes) = record s { token = Some bytes }
with_setting s (Secret bytes) = record s { secret = Some bytes }
with_setting s (LimitInitial packets) = record s { limit_initial = Some packets }
with_setting s (LimitHandshake packets) = record s { limit_handshake = Some packets }
with_setting s (LimitData packets) = record s { limit_data = Some packets }
with_setting s (LimitFailures packets) = record s { limit_failures = Some packets }
with_setting s (Idle limit) = record s { idle = Some limit }
with_setting s (Mtud allowed) = record s { mtud = Some allowed }
with_setting s (Gso allowed) = record s { gso = Some allowed }
with_setting s (Sent count) = record s { sent = Some count }
with_setting s (Clock seconds) = record s { clock = Some seconds }

-- what a script says whose one line names this side
abbrev pub side_alone : Side → Settings
side_alone side = record { side = side; random = None; time = None; local = None; remote = None; first = None; orig = None; retry = None; addr = None; validated = None; token = None; secret = None; limit_initial = None; limit_handshake = None; limit_data = None; limit_failures = None; idle = None; mtud = None; gso = None; sent = None; clock = None }

-- the line of an item
abbrev pub item_line : Item → List ℕ
item_line (It.Set setting) = setting_line setting
item_line (It.Input input) = input_line input

-- what an item says lies within its bounds on this side
abbrev pub IsItem : Side → Item → Type 0
IsItem side (It.Set setting) = IsSetting side setting
IsItem side (It.Input input) = IsWithin input

-- the place of an item's line: an input's is that behind all set lines
abbrev pub item_place : Item → ℕ
item_place (It.Set setting) = setting_place setting
item_place (It.Input input) = 21

-- the item's line may follow one of place `before`: a set line follows one of a lesser place, and an input any line
abbrev pub Follows : (before : ℕ) → Item → Type 0
Follows before (It.Set setting) = before < setting_place setting
Follows before (It.Input input) = Unit {0}

-- this text and LF is the line of this item, and may follow one of place `before`
pub record IsNextItem (side : Side) (before : ℕ) (text : List ℕ) (item : Item) : Type 0 where
  pub spelled : text ++ 10 ∷ [] ≡ item_line item
  pub within : IsItem side item
  pub follows : Follows before item

-- what a reader may find of this text: its item, or nothing where it and LF are no line that may stand there
abbrev pub IsItemRead : Side → (before : ℕ) → List ℕ → Option Item → Type 0
IsItemRead side before text None = (item : Item) → IsNextItem side before text item → ⊥
IsItemRead side before text (Some item) = IsNextItem side before text item

-- the settings after this item
abbrev pub settings_after : Settings → Item → Settings
settings_after settings (It.Set setting) = with_setting settings setting
settings_after settings (It.Input input) = settings

-- the inputs after this item
abbrev pub inputs_after : List Input → Item → List Input
inputs_after inputs (It.Set setting) = inputs
inputs_after inputs (It.Input input) = inputs ++ input ∷ []
