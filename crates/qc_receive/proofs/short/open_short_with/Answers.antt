use Rattle.std.proofs.Common.{◌≡◌, ℕ, ◌+◌, ◌<◌, ◌≤◌, List, length, take, drop, refl, ap, sym, ◌∙◌, None, arith}
use Rattle.std.specs.Prelude.{◌/◌, ◌%◌, ◌==◌}
use Rattle.std.specs.Option.{option_copied}
use Rattle.qc_base.specs.Mask.{first_byte, number_len_in, unmasked}
use Rattle.qc_header.specs.Unprotected.{header_from}
use Rattle.qc_header.specs.declared.header.Header.{Header}
use Rattle.qc_header.specs.declared.protected.ProtectedHeader.TheVariants.{Short}
use Rattle.qc_state.specs.Opening.{opened_by}
use Rattle.qc_receive.proofs.Shorts.{in_place, long_enough, short_cut, short_whole}
use Rattle.qc_receive.proofs.short.open_short_with.Goals as goal

-- it is too short for a sample
pub returns-in-None : goal.returns-in-None
returns-in-None g c dst =
    let old : List ℕ = c.args.bytes.now.items in
    let value = c.as_mut_slice.ensures.value in
    let cut = (c.in-None.ensures.cut dst).0 refl in
    let below : length old < c.args.pn_offset + 20 = omega (arith, cut.1, ap length value) in
    short_cut g.H.HeaderMask.mask_of g.P.PacketKey.opening c.args.key.now (option_copied c.args.ring) c.args.rx (length old) c.args.pn_offset (first_byte old / 32 % 2 == 1) dst old refl below

-- it is long enough: its header was read, and what is behind that opened
pub returns-in-Some : goal.returns-in-Some
returns-in-Some g c dst =
    let old : List ℕ = c.args.bytes.now.items in
    let bare : List ℕ = c.finish_short.new.packet in
    let n : ℕ = c.in-Some.header.len in
    let pn : ℕ = c.args.pn_offset in
    let value = c.as_mut_slice.ensures.value in
    let same : length bare ≡ length old = omega (arith, ap length value) in
    let put = in_place bare old same in
    let is_n : n ≡ pn + number_len_in bare = c.in-Some.ensures.len dst in
    let is_bare : bare ≡ unmasked (g.H.HeaderMask.mask_of c.args.key.now) pn old = c.in-Some.ensures.unprotected dst refl ∙ ap (λ (b : List ℕ). unmasked (g.H.HeaderMask.mask_of c.args.key.now) pn b) value in
    let whole : pn + 20 ≤ length old = long_enough (length old) (pn + 20) (λ below.
    let cut : length c.as_mut_slice.result.now < pn + 20 = omega (arith, below, ap length value) in
    cc ((c.in-Some.ensures.cut dst).1 (refl, cut))) in
    let head : List ℕ = take n c.head_of-head.result in
    let is_head : head ≡ take n bare = c.head_of-head.ensures ∙ ap (λ (b : List ℕ). take n b) (c.as_slice.ensures ∙ put) in
    let is_payload = c.advance.ensures.items ∙ ap (λ (b : List ℕ). drop n b) put in
    let read =
    c.in-Some.ensures.header dst
    ∙ ap (λ (b : List ℕ). header_from (Short (first_byte b / 32 % 2 == 1) dst) pn (take (pn + number_len_in bare) bare)) value
    ∙ ap (λ (b : List ℕ). header_from (Short (first_byte old / 32 % 2 == 1) dst) pn b) (sym (is_head ∙ ap (λ (k : ℕ). take k bare) is_n)) in
    short_whole g.H.HeaderMask.mask_of g.P.PacketKey.opening c.args.key.now (option_copied c.args.ring) c.args.rx (length old) pn (first_byte old / 32 % 2 == 1) dst old n bare head _ _ refl whole is_bare is_n is_head is_payload
    (c.open_behind.ensures dst ∙ ap (λ (x : Header). opened_by g.P.PacketKey.opening None (option_copied c.args.ring) c.args.rx x head c.advance.new.self.items) read)
