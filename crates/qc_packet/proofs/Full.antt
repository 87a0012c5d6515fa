-- A packet that is sealed in one call: how far it is filled up, and its bytes.
use Rattle.std.specs.Prelude.{Bool, false, Option, Some, None, IsSome, max, replicate}
use Rattle.std.proofs.Common.{◌≡◌, ℕ, ◌+◌, ◌-◌, ◌<◌, ◌≤◌, ◌^◌, List, ◌++◌, length, refl, sym, ap, subst, ◌∙◌, append_assoc, arith, length-append}
use Rattle.std.proofs.lemmas.Grind.{flat_map-append}
use Rattle.qc_base.specs.Time.{plus}
use Rattle.qc_base.specs.PacketNumber.{number_bytes}
use Rattle.qc_base.specs.declared.packet_number.PacketNumber.{PacketNumber}
use Rattle.qc_base.specs.declared.packet_number.PacketNumber.TheVariants.{U8, U16, U24, U32}
use Rattle.qc_base.specs.declared.side.SpaceId.{SpaceId}
use Rattle.qc_frame.specs.Frame.{FrameValue}
use Rattle.qc_frame.specs.FrameSpelling.{spelling, frames_spelling}
use Rattle.qc_frame.specs.declared.frames.FrameOf.TheVariants.{Padding}
use Rattle.qc_frame.proofs.Padded.{zeros}
use Rattle.qc_header.specs.declared.header.Header.{Header}
use Rattle.qc_header.specs.declared.header.Header.TheVariants.{Initial, Long, Retry, Short, VersionNegotiate}
use Rattle.qc_header.specs.HeaderSpelling.{header_spelling, header_number, initial_spelling, short_spelling, long_start}
use Rattle.qc_packet.specs.declared.builder.PacketBuilder.{PacketBuilder}
use Rattle.qc_packet.specs.Building.{header_len, pn_len, is_short, dst_cid_of, min_size_of, max_size_of, builder_for, padded_builder, padded_size, end_of, IsSound, IsReady, IsOf}
use Rattle.qc_packet.specs.PacketSpelling.{len_of, padding_len, with_flip, sealed_packet}
use Rattle.qc_packet.proofs.Behind.{least_behind, longer_header, most_behind, most_below, tag_fits}
use Rattle.qc_packet.proofs.Finishes.{flip_len}

number_filled : (number : PacketNumber) → 1 ≤ length (number_bytes number)
unfolding number_bytes
number_filled (U8 n) = omega arith
number_filled (U16 n) = omega arith
number_filled (U24 n) = omega arith
number_filled (U32 n) = omega arith

-- a header has two bytes or more besides its destination id
dst_within : (h : Header) → length (dst_cid_of h) + 2 ≤ header_len h
unfolding header_spelling initial_spelling short_spelling long_start
dst_within (Initial h) = simp length-append (omega arith)
dst_within (Long ty dst_cid src_cid number version) = simp length-append (omega arith)
dst_within (Retry dst_cid src_cid version) = simp length-append (omega arith)
dst_within (Short spin key_phase dst_cid number) = simp length-append (omega (arith, number_filled number))
dst_within (VersionNegotiate random src_cid dst_cid) = simp length-append (omega arith)

number_there : (number : Option PacketNumber) → IsSome number → 1 ≤ len_of number
number_there None some = cc
number_there (Some (U8 n)) some = omega arith
number_there (Some (U16 n)) some = omega arith
number_there (Some (U24 n)) some = omega arith
number_there (Some (U32 n)) some = omega arith

-- what begins a packet is sound
long_below : (start : ℕ) (h : Header) (capacity : ℕ) → is_short h ≡ false → max_size_of start h capacity + pn_len h ≤ start + header_len h + 16367
unfolding max_size_of
long_below start h capacity long = rw long (omega (arith, longer_header h))

pub begun_sound : (space : SpaceId) (number : ℕ) (h : Header) (start capacity datagram_start : ℕ) (ack_eliciting : Bool) → capacity < 2 ^ 64 → IsSome (header_number h)
    → IsSound (builder_for space number h start capacity datagram_start ack_eliciting)
unfolding min_size_of
begun_sound space number h start capacity datagram_start ack_eliciting fits some =
    record {
      numbered = number_there (header_number h) some;
      first = longer_header h;
      sample = omega arith;
      tag = omega (arith, most_below start h capacity);
      length_field = λ e. long_below start h capacity e;
    }

-- its builder can finish it where header, frames and padding are within the most that it may have
pub full_ready : (space : SpaceId) (number : ℕ) (h : Header) (start capacity : ℕ) (eliciting : Bool) (least frames_len len : ℕ)
    → IsSound (builder_for space number h start (start + capacity) start eliciting)
    → min_size_of 0 h ≤ max_size_of 0 h capacity → header_len h + frames_len ≤ max_size_of 0 h capacity → least ≤ max_size_of 0 h capacity + 16
    → len ≡ start + (header_len h + frames_len) → IsReady (padded_builder space number h start capacity eliciting least) len
full_ready space number h start capacity eliciting least frames_len len sound sized room within is_len =
    let most : max_size_of start h (start + capacity) ≡ start + max_size_of 0 h capacity = most_behind start h capacity (tag_fits h capacity sized) in
    let short : min_size_of start h ≡ start + min_size_of 0 h = least_behind start h in
    record {
      sound = record {
        numbered = sound.numbered;
        first = sound.first;
        sample = omega (arith, sound.sample);
        tag = sound.tag;
        length_field = sound.length_field;
      };
      begun = omega arith;
      sizes = omega arith;
      room = omega arith;
    }

pub full_is_of : (space : SpaceId) (number : ℕ) (h : Header) (start capacity : ℕ) (eliciting : Bool) (least : ℕ) → IsSome (header_number h)
    → IsOf (padded_builder space number h start capacity eliciting least) h
full_is_of space number h start capacity eliciting least some = record { header = refl; number = refl; numbered = number_there (header_number h) some; short = refl }

-- a header with 20 bytes behind it within the capacity leaves room for what each packet needs
pub room_enough : (h : Header) (capacity : ℕ) → header_len h + 20 ≤ capacity → min_size_of 0 h + 16 ≤ capacity
unfolding min_size_of
room_enough h capacity room = omega (arith, dst_within h)

-- what is begun behind so many bytes, and is then asked for so many
pub padded_is : (space : SpaceId) (number : ℕ) (h : Header) (start capacity : ℕ) (eliciting : Bool) (least : ℕ) (begun b : PacketBuilder)
    → begun ≡ builder_for space number h start (start + capacity) start eliciting → b ≡ record begun { min_size = max begun.min_size (plus begun.datagram_start (least - 16)) }
    → b ≡ padded_builder space number h start capacity eliciting least
padded_is space number h start capacity eliciting least begun b is_begun is_b =
    is_b ∙ ap (λ (x : PacketBuilder). record x { min_size = max x.min_size (plus x.datagram_start (least - 16)) }) is_begun

-- and its builder can finish it
pub padded_ready : (space : SpaceId) (number : ℕ) (h : Header) (start capacity : ℕ) (eliciting : Bool) (least frames_len len : ℕ) (begun b : PacketBuilder)
    → begun ≡ builder_for space number h start (start + capacity) start eliciting → b ≡ padded_builder space number h start capacity eliciting least → IsSound begun
    → min_size_of 0 h ≤ max_size_of 0 h capacity → header_len h + frames_len ≤ max_size_of 0 h capacity → least ≤ max_size_of 0 h capacity + 16
    → len ≡ start + (header_len h + frames_len) → IsReady b len
padded_ready space number h start capacity eliciting least frames_len len begun b is_begun is_b sound sized room within is_len =
    subst (λ (x : PacketBuilder). IsReady x len) (sym is_b)
    (full_ready space number h start capacity eliciting least frames_len len (subst (λ (x : PacketBuilder). IsSound x) is_begun sound) sized room within is_len)

-- header and frames stand behind what stood there
pub put_is : (header frames before begun out : List ℕ) → begun ≡ before ++ header → out ≡ begun ++ frames → out ≡ before ++ (header ++ frames)
put_is header frames before begun out is_begun is_out = is_out ∙ ap (λ (x : List ℕ). x ++ frames) is_begun ∙ append_assoc before header frames

-- how many bytes there are then, the fixed bit flipped or not
pub put_size : (flip : Bool) (h : Header) (frames before out : List ℕ) → out ≡ before ++ (with_flip flip (header_spelling h 0) ++ frames) → length out ≡ length before + (header_len h + length frames)
put_size flip h frames before out is_out =
    ap (λ (x : List ℕ). length x) is_out ∙ length-append before (with_flip flip (header_spelling h 0) ++ frames)
    ∙ ap (λ (n : ℕ). length before + n) (length-append (with_flip flip (header_spelling h 0)) frames ∙ ap (λ (n : ℕ). n + length frames) (flip_len flip h 0))

-- header and frames that stand behind other bytes, and a builder that can finish them
module _ (flip : Bool) (space : SpaceId) (number : ℕ) (h : Header) (capacity : ℕ) (eliciting : Bool) (fs : List FrameValue) (least : ℕ) (before items : List ℕ) (b : PacketBuilder)
    (is_b : b ≡ padded_builder space number h (length before) capacity eliciting least) (is_items : items ≡ before ++ (with_flip flip (header_spelling h 0) ++ frames_spelling fs))
    (ready : IsReady b (length items)) (sized : min_size_of 0 h ≤ max_size_of 0 h capacity) (within : least ≤ max_size_of 0 h capacity + 16) where
  items_size : length items ≡ length before + (header_len h + length (frames_spelling fs))
  items_size = put_size flip h (frames_spelling fs) before items is_items

  -- all sizes are numbers of the machine
  all_small : length before + least < 2 ^ 64
  all_small =
      let most : max_size_of (length before) h (length before + capacity) ≡ length before + max_size_of 0 h capacity = most_behind (length before) h capacity (tag_fits h capacity sized) in
      omega (arith, ap (λ (x : PacketBuilder). x.max_size) is_b, ready.sound.tag, most, within)

  least_end : b.min_size ≡ length before + max (min_size_of 0 h) (least - 16)
  least_end = omega (arith, ap (λ (x : PacketBuilder). x.min_size) is_b, least_behind (length before) h, all_small)

  -- how many bytes there are once it is finished
  pub full_size : (n : ℕ) → n ≡ end_of b (length items) + 16 → n ≡ length before + padded_size h fs least
  full_size n is_n = omega (arith, is_n, least_end, items_size)

  -- how many bytes it is padded with
  pub full_padding : b.min_size - length items ≡ padding_len h fs (padded_size h fs least)
  full_padding = omega (arith, least_end, items_size)

  -- padding of zeros is so many PADDING frames
  pub full_bytes : (mask : List ℕ → List ℕ) (seal : ℕ → List ℕ → List ℕ → List ℕ) (out : List ℕ) → IsSome (header_number h)
      → ((before : List ℕ) (flip : Bool) (h : Header) (plain : List ℕ) → b.start ≡ length before → IsOf b h → items ≡ before ++ (with_flip flip (header_spelling h 0) ++ plain)
      → out ≡ before ++ sealed_packet mask seal flip h b.exact_number (plain ++ replicate (b.min_size - length items) 0))
      → out ≡ before ++ sealed_packet mask seal flip h number (frames_spelling (fs ++ replicate (padding_len h fs (padded_size h fs least)) Padding))
  full_bytes mask seal out some finished =
      let pad : ℕ = padding_len h fs (padded_size h fs least) in
      let spelled : frames_spelling (fs ++ replicate pad Padding) ≡ frames_spelling fs ++ replicate pad 0 = rw (flat_map-append spelling fs (replicate pad Padding), zeros pad) refl in
      finished before flip h (frames_spelling fs) (ap (λ (x : PacketBuilder). x.start) is_b)
      (subst (λ (x : PacketBuilder). IsOf x h) (sym is_b) (full_is_of space number h (length before) capacity eliciting least some)) is_items
      ∙ ap (λ (n : ℕ). before ++ sealed_packet mask seal flip h n (frames_spelling fs ++ replicate (b.min_size - length items) 0)) (ap (λ (x : PacketBuilder). x.exact_number) is_b)
      ∙ ap (λ (n : ℕ). before ++ sealed_packet mask seal flip h number (frames_spelling fs ++ replicate n 0)) full_padding
      ∙ ap (λ (x : List ℕ). before ++ sealed_packet mask seal flip h number x) (sym spelled)
