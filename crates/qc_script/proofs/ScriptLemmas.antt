-- Lines of a script, and the first bad one.
use Rattle.std.proofs.Common.{◌≡◌, ◌≢◌, ℕ, ◌+◌, ◌-◌, ◌<◌, ◌≤◌, List, [], ◌∷◌, ◌++◌, length, get_or, take, drop, map, refl, sym, ◌∙◌, ap, subst, arith, Bool, true, false, eqb, ne_eqb, inl, inr}
use Rattle.std.proofs.lemmas.List.{append-nil, append_assoc, map-append, take_at, length-append, length-map, take-append-drop}
use Rattle.std.specs.List.{concat}
use Rattle.std.proofs.lemmas.Bool.{ne_eqb, cases_lt}
use Rattle.qc_base.specs.declared.side.Side.{Side}
use Rattle.qc_base.specs.declared.side.Side.TheVariants.{Client, Server}
use Rattle.qc_state.specs.declared.input.Input.{Input}
use Rattle.qc_script.specs.declared.settings.Settings.{Settings}
use Rattle.qc_script.specs.declared.items.Item.{Item}
use Rattle.qc_script.specs.declared.script.ScriptError.TheVariants.{BadLine, OutOfMemory}
use Rattle.qc_script.specs.Fields.{Lacks}
use Rattle.qc_script.specs.Script.{with_byte, lines_of, side_line, IsScript, GoesOn, IsFirstBad}
use Rattle.qc_script.specs.Items.{side_alone, item_line, IsItem, item_place, Follows, IsNextItem, settings_after, inputs_after}
use Rattle.qc_script.proofs.NumberLemmas.{no_split}
use Rattle.qc_script.proofs.SettingLemmas.{side_line_injective}
use Rattle.qc_script.proofs.ItemLemmas.{item_ends, Chain, last_place, settings_from, inputs_from, chain_push, last_place-push, settings_from-push, inputs_from-push, same_items, others_none, items_of, script_lines, script_chain, script_settings, script_inputs, items_lines, items_settings, items_within}

-- ---- lines of a text

-- lines joined again are the text
concat-with_byte : (ends : Bool) (b : ℕ) (lines : List (List ℕ)) → concat (with_byte ends b lines) ≡ b ∷ concat lines
concat-with_byte true b lines = refl
concat-with_byte false b [] = refl
concat-with_byte false b (line ∷ lines) = refl

concat-lines_of : (bytes : List ℕ) → concat (lines_of bytes) ≡ bytes
unfolding lines_of
concat-lines_of [] = refl
concat-lines_of (b ∷ bytes) = concat-with_byte (eqb b 10) b (lines_of bytes) ∙ ap (λ (r : List ℕ). b ∷ r) (concat-lines_of bytes)

lines_of_line : (text rest : List ℕ) → Lacks 10 text → lines_of (text ++ 10 ∷ rest) ≡ (text ++ 10 ∷ []) ∷ lines_of rest
unfolding lines_of
lines_of_line [] rest h = refl
lines_of_line (c ∷ text) rest h = rw (ne_eqb c 10 h.0) (ap (with_byte false c) (lines_of_line text rest h.1))

lines_of_end : (c : ℕ) (text : List ℕ) → Lacks 10 (c ∷ text) → lines_of (c ∷ text) ≡ (c ∷ text) ∷ []
unfolding lines_of
lines_of_end c [] h = rw (ne_eqb c 10 h.0) refl
lines_of_end c (d ∷ text) h = rw (ne_eqb c 10 h.0) (ap (with_byte false c) (lines_of_end d text h.1))

lines_of_side : (side : Side) (rest : List ℕ) → lines_of (side_line side ++ rest) ≡ side_line side ∷ lines_of rest
unfolding lines_of side_line
lines_of_side Client rest = refl
lines_of_side Server rest = refl

-- ---- what is read so far

-- the lines before the rest are a side's and those of these items, and tell these settings and inputs; the last of them, the
-- line `count`, has this place
pub record Read (bytes : List ℕ) (side : Side) (settings : Settings) (inputs : List Input) (place count : ℕ) (rest : List ℕ) : Type 0 where
  pub items : List Item
  pub spelled : lines_of bytes ≡ (side_line side ∷ map item_line items) ++ lines_of rest
  pub chain : Chain side 0 items
  pub last : place ≡ last_place 0 items
  pub counted : count ≡ length items + 1
  pub set : settings ≡ settings_from (side_alone side) items
  pub given : inputs ≡ inputs_from [] items
  pub small : count + length rest ≤ length bytes

side_line_some : (side : Side) → 0 < length (side_line side)
unfolding side_line
side_line_some Client = omega arith
side_line_some Server = omega arith

pub read_start : (bytes : List ℕ) (side : Side) (rest : List ℕ) (settings : Settings) (inputs : List Input) → bytes ≡ side_line side ++ rest → settings ≡ side_alone side → inputs ≡ [] → Read bytes side settings inputs 0 1 rest
read_start bytes side rest settings inputs e set none = record {
  items = [];
  spelled = ap lines_of e ∙ lines_of_side side rest;
  chain = tt;
  last = refl;
  counted = refl;
  set = set;
  given = none;
  small = omega (arith, ap length e, length-append (side_line side) rest, side_line_some side);
}

-- one line more
pub read_more : (bytes : List ℕ) (side : Side) (settings : Settings) (inputs : List Input) (place count : ℕ) (rest text others : List ℕ) (item : Item) → Read bytes side settings inputs place count rest → rest ≡ text ++ 10 ∷ others → Lacks 10 text → IsNextItem side place text item
    → Read bytes side (settings_after settings item) (inputs_after inputs item) (item_place item) (count + 1) others
read_more bytes side settings inputs place count rest text others item r e lacks h =
    let line : lines_of rest ≡ item_line item ∷ lines_of others = ap lines_of e ∙ lines_of_line text others lacks ∙ ap (λ (l : List ℕ). l ∷ lines_of others) h.spelled in
    let joined : map item_line r.items ++ item_line item ∷ lines_of others ≡ map item_line (r.items ++ item ∷ []) ++ lines_of others = rw (map-append item_line r.items (item ∷ [])) (simp append_assoc) in
    record {
      items = r.items ++ item ∷ [];
      spelled = r.spelled ∙ ap (λ (ls : List (List ℕ)). (side_line side ∷ map item_line r.items) ++ ls) line ∙ ap (λ (ls : List (List ℕ)). side_line side ∷ ls) joined;
      chain = chain_push side 0 r.items item r.chain h.within (subst (λ (p : ℕ). Follows p item) r.last h.follows);
      last = sym (last_place-push 0 r.items item);
      counted = omega (arith, r.counted, length-append r.items (item ∷ []));
      set = ap (λ (s : Settings). settings_after s item) r.set ∙ sym (settings_from-push (side_alone side) r.items item);
      given = ap (λ (is : List Input). inputs_after is item) r.given ∙ sym (inputs_from-push [] r.items item);
      small = omega (arith, r.small, ap length e, length-append text (10 ∷ others));
    }

-- the lines of the items are those of a script
script_of : (side : Side) (items : List Item) (lines : List (List ℕ)) → Chain side 0 items → lines ≡ side_line side ∷ map item_line items → IsScript lines (settings_from (side_alone side) items) (inputs_from [] items)
script_of side items lines chain e = record { spelled = e ∙ items_lines side items chain; set = items_settings side items chain; within = items_within side items chain }

pub read_whole : (bytes : List ℕ) (side : Side) (settings : Settings) (inputs : List Input) (place count : ℕ) (rest : List ℕ) → Read bytes side settings inputs place count rest → rest ≡ [] → IsScript (lines_of bytes) settings inputs
unfolding lines_of
read_whole bytes side settings inputs place count rest r e =
    let whole : lines_of bytes ≡ side_line side ∷ map item_line r.items = r.spelled ∙ ap (λ (x : List ℕ). (side_line side ∷ map item_line r.items) ++ lines_of x) e ∙ append-nil (side_line side ∷ map item_line r.items) in
    let script = script_of side r.items (lines_of bytes) r.chain whole in
    rw (r.set, r.given) script

-- ---- the first bad line

-- the front of a list, by its length
take_before : {X : Type 0} (lines front : List X) (line : X) (more : List X) (n : ℕ) → lines ≡ front ++ line ∷ more → n ≡ length front → take n lines ≡ front
take_before lines front line more n e size = ap (take n) e ∙ take_at front (line ∷ more) n (sym size)

take_with : {X : Type 0} (lines front : List X) (line : X) (more : List X) (n : ℕ) → lines ≡ front ++ line ∷ more → n ≡ length front + 1 → take n lines ≡ front ++ line ∷ []
take_with lines front line more n e size =
    ap (take n) (e ∙ sym (append_assoc front (line ∷ []) more)) ∙ take_at (front ++ line ∷ []) more n (omega (arith, length-append front (line ∷ []), size))

first_line_same : (a b : List ℕ) (xs ys : List (List ℕ)) → a ∷ xs ≡ b ∷ ys → a ≡ b
first_line_same a b xs ys e = ap (λ (ls : List (List ℕ)). get_or ls 0 []) e

-- a line that no item may have behind these goes on in no script
none_behind : (side : Side) (items : List Item) (line : List ℕ) (more : List (List ℕ)) (settings : Settings) (inputs : List Input) → Chain side 0 items → IsScript ((side_line side ∷ map item_line items) ++ line ∷ more) settings inputs
    → ((j : Item) → line ≡ item_line j → IsItem side j → Follows (last_place 0 items) j → ⊥) → ⊥
none_behind side items line more settings inputs chain h bad =
    let whole : side_line side ∷ (map item_line items ++ line ∷ more) ≡ side_line settings.side ∷ map item_line (items_of settings inputs) = h.spelled ∙ script_lines settings inputs in
    let same : settings.side ≡ side = side_line_injective settings.side side (first_line_same _ _ _ _ (sym whole)) in
    let other : Chain side 0 (items_of settings inputs) = subst (λ (d : Side). Chain d 0 (items_of settings inputs)) same (script_chain settings inputs h.set h.within) in
    others_none side 0 items (items_of settings inputs) line more chain other (ap (drop 1) whole) bad

-- the line after the items read is bad
bad_line : (lines : List (List ℕ)) (side : Side) (items : List Item) (line : List ℕ) (more : List (List ℕ)) (k : ℕ) → lines ≡ (side_line side ∷ map item_line items) ++ line ∷ more → Chain side 0 items → k ≡ length items + 2
    → ((j : Item) → line ≡ item_line j → IsItem side j → Follows (last_place 0 items) j → ⊥) → IsFirstBad lines k
bad_line lines side items line more k e chain is bad =
    let front : List (List ℕ) = side_line side ∷ map item_line items in
    let count : length front ≡ length items + 1 = omega (arith, length-map items item_line) in
    let size : length lines ≡ length items + 2 + length more = omega (arith, ap length e, length-append front (line ∷ more), count) in
    record {
      counted = omega arith;
      inside = omega (arith, size);
      before = record {
        more = [];
        settings = settings_from (side_alone side) items;
        inputs = inputs_from [] items;
        script = script_of side items (take (k - 1) lines ++ []) chain (append-nil _ ∙ take_before lines front line more (k - 1) e (omega (arith, count)));
      };
      stops = λ inside h.
          let taken : take k lines ≡ front ++ line ∷ [] = take_with lines front line more k e (omega (arith, count)) in
          let whole : take k lines ++ h.more ≡ front ++ line ∷ h.more = ap (λ (ls : List (List ℕ)). ls ++ h.more) taken ∙ append_assoc front (line ∷ []) h.more in
          none_behind side items line h.more h.settings h.inputs chain (subst (λ (ls : List (List ℕ)). IsScript ls h.settings h.inputs) whole h.script) bad;
      missing = λ last settings inputs script. omega (arith, size);
    }

-- a next line that is no item's
pub bad_text : (bytes : List ℕ) (side : Side) (settings : Settings) (inputs : List Input) (place count : ℕ) (rest text others : List ℕ) → Read bytes side settings inputs place count rest → rest ≡ text ++ 10 ∷ others → Lacks 10 text
    → ((item : Item) → IsNextItem side place text item → ⊥) → IsFirstBad (lines_of bytes) (count + 1)
bad_text bytes side settings inputs place count rest text others r e lacks none =
    bad_line (lines_of bytes) side r.items (text ++ 10 ∷ []) (lines_of others) (count + 1) (r.spelled ∙ ap (λ (ls : List (List ℕ)). (side_line side ∷ map item_line r.items) ++ ls) (ap lines_of e ∙ lines_of_line text others lacks)) r.chain (omega (arith, r.counted))
    (λ j spelled within follows. none j (record { spelled = spelled; within = within; follows = subst (λ (p : ℕ). Follows p j) (sym r.last) follows }))

-- a last line without its LF
end_bad : (rest : List ℕ) → Lacks 10 rest → (j : Item) → rest ≡ item_line j → ⊥
end_bad rest lacks j e = let line = item_ends j in no_split 10 rest line.0 [] lacks (e ∙ line.1)

pub bad_end : (bytes : List ℕ) (side : Side) (settings : Settings) (inputs : List Input) (place count : ℕ) (rest : List ℕ) → Read bytes side settings inputs place count rest → 0 < length rest → Lacks 10 rest → IsFirstBad (lines_of bytes) (count + 1)
bad_end bytes side settings inputs place count [] r some lacks = absurd (omega arith)
bad_end bytes side settings inputs place count (c ∷ rest) r some lacks =
    bad_line (lines_of bytes) side r.items (c ∷ rest) [] (count + 1) (r.spelled ∙ ap (λ (ls : List (List ℕ)). (side_line side ∷ map item_line r.items) ++ ls) (lines_of_end c rest lacks)) r.chain (omega (arith, r.counted))
    (λ j spelled within follows. end_bad (c ∷ rest) lacks j spelled)

-- a first line that isn't a side's
first_stops : (lines : List (List ℕ)) → ((side : Side) (more : List (List ℕ)) → lines ≡ side_line side ∷ more → ⊥) → 1 ≤ length lines → GoesOn (take 1 lines) → ⊥
first_stops [] bad inside h = omega arith
first_stops (line ∷ lines) bad inside h =
    let first : line ≡ side_line h.settings.side = first_line_same line (side_line h.settings.side) h.more (map item_line (items_of h.settings h.inputs)) (h.script.spelled ∙ script_lines h.settings h.inputs) in
    bad h.settings.side lines (ap (λ (l : List ℕ). l ∷ lines) first)

first_bad : (lines : List (List ℕ)) → ((side : Side) (more : List (List ℕ)) → lines ≡ side_line side ∷ more → ⊥) → IsFirstBad lines 1
first_bad lines bad = record {
  counted = omega arith;
  inside = omega arith;
  before = record { more = side_line Client ∷ []; settings = settings_from (side_alone Client) []; inputs = []; script = script_of Client [] (side_line Client ∷ []) tt refl };
  stops = first_stops lines bad;
  missing = λ last settings inputs script. bad settings.side _ (script.spelled ∙ script_lines settings inputs);
}

pub read_no_start : (bytes : List ℕ) → ((side : Side) (rest : List ℕ) → bytes ≢ side_line side ++ rest) → IsFirstBad (lines_of bytes) 1
read_no_start bytes none = first_bad (lines_of bytes) (λ side more e. none side (concat more) (sym (concat-lines_of bytes) ∙ ap concat e))

-- ---- one script

-- lines are a script of one kind of settings and one list of inputs
pub script_same : (lines : List (List ℕ)) (s s' : Settings) (is is' : List Input) → IsScript lines s is → IsScript lines s' is' → (s ≡ s') × (is ≡ is')
script_same lines s s' is is' h k =
    let whole : side_line s.side ∷ map item_line (items_of s is) ≡ side_line s'.side ∷ map item_line (items_of s' is') = sym (script_lines s is) ∙ sym h.spelled ∙ k.spelled ∙ script_lines s' is' in
    let side : s.side ≡ s'.side = side_line_injective s.side s'.side (first_line_same _ _ _ _ whole) in
    let chain : Chain s'.side 0 (items_of s is) = subst (λ (d : Side). Chain d 0 (items_of s is)) side (script_chain s is h.set h.within) in
    let items : items_of s is ≡ items_of s' is' = same_items s'.side 0 (items_of s is) (items_of s' is') chain (script_chain s' is' k.set k.within) (ap (drop 1) whole) in (
      sym (script_settings s is) ∙ ap (λ (d : Side). settings_from (side_alone d) (items_of s is)) side ∙ ap (settings_from (side_alone s'.side)) items ∙ script_settings s' is',
      sym (script_inputs s is) ∙ ap (inputs_from []) items ∙ script_inputs s' is',
    )

-- and then none of them is bad
script_not_bad : (lines : List (List ℕ)) (settings : Settings) (inputs : List Input) (k : ℕ) → IsScript lines settings inputs → IsFirstBad lines k → ⊥
script_not_bad lines settings inputs k h bad = elim (cases_lt (length lines) k) [
  | inr inside ↦ bad.stops inside (record { more = drop k lines; settings = settings; inputs = inputs; script = record { spelled = take-append-drop k lines ∙ h.spelled; set = h.set; within = h.within } })
  | inl past ↦ bad.missing (omega (arith, bad.inside)) settings inputs h
]

pub script_or_bad : (lines : List (List ℕ)) (k : ℕ) → IsFirstBad lines k → (settings : Settings) (inputs : List Input) → IsScript lines settings inputs → BadLine k ≡ OutOfMemory
script_or_bad lines k bad settings inputs script = absurd (script_not_bad lines settings inputs k script bad)
