use Rattle.std.specs.List.{list_any}
use Rattle.std.proofs.Common.{◌≡◌, ℕ, ◌+◌, ◌∙◌, Bool, List, length, ap, arith}
use Rattle.qc_frame.specs.FrameSpelling.{elicits, frames_spelling}
use Rattle.qc_header.specs.declared.header.Header.{Header}
use Rattle.qc_header.specs.HeaderSpelling.{header_spelling}
use Rattle.qc_packet.specs.declared.slot.Slot.{Slot}
use Rattle.qc_packet.specs.Building.{builder_for, padded_builder}
use Rattle.qc_packet.specs.PacketSpelling.{with_flip}
use Rattle.qc_packet.proofs.Behind.{most_below}
use Rattle.qc_packet.proofs.Full.{padded_is, padded_ready, put_is, put_size}
use Rattle.qc_packet.proofs.seal.begin_padded.Goals as goal

-- no more bytes are asked for than a packet may have
pub overflow_cast-least : goal.overflow_cast-least
overflow_cast-least c = omega (arith, most_below 0 c.args.header.now c.args.capacity)

-- header and frames stand behind what stood there
pub returns-clause-bytes : goal.returns-clause-bytes
returns-clause-bytes c =
    put_is (with_flip c.args.slot.now.flip (header_spelling c.args.header.now 0)) (frames_spelling c.args.frames.now) c.args.buf.now.items
    c.begin_behind.new.buf.items c.put.new.out.items c.in_ok-builder.ensures.header c.in_ok-put.ensures.ok

-- the builder knows where they begin, and how many bytes are asked for
pub returns-clause-builder : goal.returns-clause-builder
returns-clause-builder c =
    let s : Slot = c.args.slot.now in
    let h : Header = c.args.header.now in
    let start : ℕ = length c.args.buf.now.items in
    let asks : Bool = list_any elicits c.args.frames.now in
    let begun : c.in_ok-builder.builder ≡ builder_for s.space s.number h start (start + c.args.capacity) start asks =
    c.in_ok-builder.ensures.builder ∙ ap (λ (b : Bool). builder_for s.space s.number h start (start + c.args.capacity) start b) c.elicits.ensures in
    padded_is s.space s.number h start c.args.capacity asks c.args.least c.in_ok-builder.builder c.pad_to.new.self begun c.pad_to.ensures.size

-- and can finish the packet
pub returns-clause-ready : goal.returns-clause-ready
returns-clause-ready c =
    let s : Slot = c.args.slot.now in
    let h : Header = c.args.header.now in
    let frames : List ℕ = frames_spelling c.args.frames.now in
    let start : ℕ = length c.args.buf.now.items in
    let asks : Bool = list_any elicits c.args.frames.now in
    let begun : c.in_ok-builder.builder ≡ builder_for s.space s.number h start (start + c.args.capacity) start asks =
    c.in_ok-builder.ensures.builder ∙ ap (λ (b : Bool). builder_for s.space s.number h start (start + c.args.capacity) start b) c.elicits.ensures in
    let asked : c.pad_to.new.self ≡ padded_builder s.space s.number h start c.args.capacity asks c.args.least =
    padded_is s.space s.number h start c.args.capacity asks c.args.least c.in_ok-builder.builder c.pad_to.new.self begun c.pad_to.ensures.size in
    let len : length c.put.new.out.items ≡ start + (length (header_spelling h 0) + length frames) =
    put_size s.flip h frames c.args.buf.now.items c.put.new.out.items
    (put_is (with_flip s.flip (header_spelling h 0)) frames c.args.buf.now.items c.begin_behind.new.buf.items c.put.new.out.items c.in_ok-builder.ensures.header c.in_ok-put.ensures.ok) in
    padded_ready s.space s.number h start c.args.capacity asks c.args.least (length frames) (length c.put.new.out.items) c.in_ok-builder.builder c.pad_to.new.self begun asked
    (c.in_ok-builder.ensures.sound c.requires.numbered) c.requires.sized c.requires.room c.requires.least len
