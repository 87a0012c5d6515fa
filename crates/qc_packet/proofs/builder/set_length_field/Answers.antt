use Rattle.std.specs.Prelude.{true, false, Some}
use Rattle.std.proofs.Common.{◌≡◌, ℕ, ◌-◌, ◌++◌, [], refl, sym, ap, ◌∙◌, arith}
use Rattle.qc_base.specs.Mask.{first_byte}
use Rattle.qc_header.specs.HeaderSpelling.{header_spelling, header_number}
use Rattle.qc_header.specs.SetLength.{begun_by, IsPlaceOf}
use Rattle.qc_packet.specs.PacketSpelling.{with_flip}
use Rattle.qc_packet.proofs.Finishes.{some_len, same_form, same_first}
use Rattle.qc_packet.proofs.builder.set_length_field.Goals as goal

-- the Length field is set behind the first byte, whether that is flipped or not
pub returns : goal.returns
returns c flip h behind len number some is =
    let placed : IsPlaceOf (record { start = 0; header_len = c.args.header_len; pn_len = Some c.args.pn_len }) [] h =
    record { start = refl; header_len = len; pn_len = some_len (header_number h) c.args.pn_len number some } in
    elim flip as (λ f. c.args.packet.now ≡ with_flip f (header_spelling h 0) ++ behind → c.set_length.new.buf ≡ with_flip f (header_spelling h c.args.length_field) ++ behind) [
      | true ↦ λ e.
          c.set_length.ensures.flipped h 0 (first_byte (header_spelling h 0) - 64) [] behind placed (same_form h (omega (arith, number, some))) e
          ∙ ap (λ (b : ℕ). begun_by (b - 64) (header_spelling h c.args.length_field) ++ behind) (sym (same_first h c.args.length_field))
      | false ↦ λ e. c.set_length.ensures.header h 0 [] behind placed e
    ] is
