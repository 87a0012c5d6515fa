use Rattle.std.proofs.Common.{◌≡◌, ℕ, true, List, [], ◌∷◌, ◌++◌, length, ap}
use Rattle.qc_base.specs.declared.side.SpaceId.TheVariants.{Data}
use Rattle.qc_header.specs.HeaderSpelling.{header_spelling}
use Rattle.qc_packet.specs.Building.{padded_builder}
use Rattle.qc_bench_run.specs.Passing.{passing_header}
use Rattle.qc_bench_run.proofs.PassingLemmas.{builder_is, builder_ready, begun_bytes, begun_size, passing_spelled}
use Rattle.qc_bench_run.proofs.packets.build.Goals as goal

pub finish-requires : goal.finish-requires
finish-requires g c =
    let start : length c.args.buf.now.items ≡ 0 = ap (λ (x : List ℕ). length x) c.requires.empty in
    let b : c.pad_to.new.self ≡ padded_builder Data c.args.number (passing_header c.args.number) 0 16383 true c.args.size =
    builder_is c.args.number c.args.size (length c.args.buf.now.items) c.header_of-header.result c.in-Ok.builder c.pad_to.new.self c.header_of-header.ensures start c.in-Ok.ensures.builder c.pad_to.ensures.size in
    let bytes : c.push.new.self.items ≡ header_spelling (passing_header c.args.number) 0 ++ 1 ∷ [] =
    begun_bytes c.args.number c.header_of-header.result c.args.buf.now.items c.new.new.buf.items c.push.new.self.items c.header_of-header.ensures c.requires.empty c.in-Ok.ensures.header c.in_ok-push.ensures.items in
    builder_ready c.args.number c.args.size (length c.push.new.self.items) c.pad_to.new.self c.requires.least c.requires.most b (begun_size c.args.number c.push.new.self.items bytes)

pub returns : goal.returns
returns g c =
    let start : length c.args.buf.now.items ≡ 0 = ap (λ (x : List ℕ). length x) c.requires.empty in
    let b : c.pad_to.new.self ≡ padded_builder Data c.args.number (passing_header c.args.number) 0 16383 true c.args.size =
    builder_is c.args.number c.args.size (length c.args.buf.now.items) c.header_of-header.result c.in-Ok.builder c.pad_to.new.self c.header_of-header.ensures start c.in-Ok.ensures.builder c.pad_to.ensures.size in
    let bytes : c.push.new.self.items ≡ header_spelling (passing_header c.args.number) 0 ++ 1 ∷ [] =
    begun_bytes c.args.number c.header_of-header.result c.args.buf.now.items c.new.new.buf.items c.push.new.self.items c.header_of-header.ensures c.requires.empty c.in-Ok.ensures.header c.in_ok-push.ensures.items in
    passing_spelled (g.H.HeaderMask.mask_of c.args.header_key.now) (g.P.PacketKey.seal c.args.packet_key.now) c.args.number c.args.size c.pad_to.new.self c.push.new.self.items c.finish.new.buf.items
    c.requires.least c.requires.most b bytes c.in_ok-finish.ensures.packet
