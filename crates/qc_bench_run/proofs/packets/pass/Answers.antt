use Rattle.std.proofs.Common.{◌≡◌, ℕ, false, List, sym, ap, ◌∙◌, subst, arith}
use Rattle.qc_header.specs.Piece.{Piece}
use Rattle.qc_packet.specs.Arrival.{sealed_piece}
use Rattle.qc_packet.specs.PacketSpelling.{packet_spelling}
use Rattle.qc_packet.specs.Unprotected.{is_cut, IsUnprotected}
use Rattle.qc_bench_run.specs.Passing.{passing_header, passing_payload}
use Rattle.qc_bench_run.proofs.PassingLemmas.{Passes, passed, one_piece, none_there, of_some}
use Rattle.qc_bench_run.proofs.packets.pass.Goals as goal

pub returns-in-None-clause-number : goal.returns-in-None-clause-number
returns-in-None-clause-number g c =
    let seal = g.P.PacketKey.seal c.args.sealer.now.packet.local in
    let is : c.replace-packet.result.items ≡ packet_spelling (g.H.HeaderMask.mask_of c.args.sealer.now.header.local) seal (passing_header c.args.number) c.args.number (passing_payload c.args.size) =
    let moved = c.replace-packet.ensures.value in
    let built = c.in_ok-build.ensures in
    cc in
    let law : Passes (g.H.HeaderMask.mask_of c.args.sealer.now.header.local) seal c.args.number c.args.size c.replace-packet.result.items =
    passed (g.H.HeaderMask.mask_of c.args.sealer.now.header.local) seal c.args.number c.args.size c.replace-packet.result.items c.requires.least c.requires.most (omega arith)
    (λ header. g.met.P.PacketKey.sealed_length c.args.sealer.now.packet.local c.args.number header (passing_payload c.args.size)) is in
    let there = c.in_ok-read.ensures (sealed_piece (g.H.HeaderMask.mask_of c.args.sealer.now.header.local) seal false (passing_header c.args.number) c.args.number (passing_payload c.args.size)) law.read in
    let none = c.in-None.is in
    cc

pub returns-in-None-2-clause-number : goal.returns-in-None-2-clause-number
returns-in-None-2-clause-number g c =
    let seal = g.P.PacketKey.seal c.args.sealer.now.packet.local in
    let is : c.replace-packet.result.items ≡ packet_spelling (g.H.HeaderMask.mask_of c.args.sealer.now.header.local) seal (passing_header c.args.number) c.args.number (passing_payload c.args.size) =
    let moved = c.replace-packet.ensures.value in
    let built = c.in_ok-build.ensures in
    cc in
    let piece : Piece = sealed_piece (g.H.HeaderMask.mask_of c.args.sealer.now.header.local) seal false (passing_header c.args.number) c.args.number (passing_payload c.args.size) in
    let law : Passes (g.H.HeaderMask.mask_of c.args.sealer.now.header.local) seal c.args.number c.args.size c.replace-packet.result.items =
    passed (g.H.HeaderMask.mask_of c.args.sealer.now.header.local) seal c.args.number c.args.size c.replace-packet.result.items c.requires.least c.requires.most (omega arith)
    (λ header. g.met.P.PacketKey.sealed_length c.args.sealer.now.packet.local c.args.number header (passing_payload c.args.size)) is in
    let there = c.in_ok-read.ensures piece law.read in
    let same : c.in-Some.partial ≡ piece = one_piece c.in_ok-read.field-0 c.in-Some.partial piece c.in-Some.is there in
    let whole : is_cut c.in-Some.partial ≡ false = ap is_cut same ∙ law.whole in
    absurd (none_there c.in_ok-unmask.field-0 c.in-None-2.is (c.in_ok-unmask.ensures.some whole))

pub returns-in_ok-buf-in-Some-2-clause-number : goal.returns-in_ok-buf-in-Some-2-clause-number
returns-in_ok-buf-in-Some-2-clause-number g c =
    let seal = g.P.PacketKey.seal c.args.sealer.now.packet.local in
    let is : c.replace-packet.result.items ≡ packet_spelling (g.H.HeaderMask.mask_of c.args.sealer.now.header.local) seal (passing_header c.args.number) c.args.number (passing_payload c.args.size) =
    let moved = c.replace-packet.ensures.value in
    let built = c.in_ok-build.ensures in
    cc in
    let piece : Piece = sealed_piece (g.H.HeaderMask.mask_of c.args.sealer.now.header.local) seal false (passing_header c.args.number) c.args.number (passing_payload c.args.size) in
    let law : Passes (g.H.HeaderMask.mask_of c.args.sealer.now.header.local) seal c.args.number c.args.size c.replace-packet.result.items =
    passed (g.H.HeaderMask.mask_of c.args.sealer.now.header.local) seal c.args.number c.args.size c.replace-packet.result.items c.requires.least c.requires.most (omega arith)
    (λ header. g.met.P.PacketKey.sealed_length c.args.sealer.now.packet.local c.args.number header (passing_payload c.args.size)) is in
    let there = c.in_ok-read.ensures piece law.read in
    let same : c.in-Some.partial ≡ piece = one_piece c.in_ok-read.field-0 c.in-Some.partial piece c.in-Some.is there in
    let masked = subst (λ (m : List ℕ → List ℕ). IsUnprotected m c.in-Some.partial c.in-Some-2.packet) (sym c.requires.masks)
    (of_some c.in_ok-unmask.field-0 c.in-Some-2.packet (IsUnprotected (g.H.HeaderMask.mask_of c.args.opener.now.header.remote) c.in-Some.partial) c.in-Some-2.is c.in_ok-unmask.ensures.packet) in
    let plain = law.unprotected c.in-Some-2.packet (subst (λ (x : Piece). IsUnprotected (g.H.HeaderMask.mask_of c.args.sealer.now.header.local) x c.in-Some-2.packet) same masked) in
    c.open-full.ensures c.args.sealer.now.packet.local (passing_payload c.args.size) c.requires.mates c.requires.epoch plain
