-- All kinds of frames: what is read is what the grammar says
use Rattle.std.proofs.Common.{◌*◌, ◌≡◌, ℕ, zero, suc, ◌/◌, ◌%◌, ◌<◌, ◌≤◌, Bool, true, false, ◌&&◌, nat_le, ◌==◌, List, [], ◌∷◌, Ok, cond, refl, subst, arith}
use Rattle.std.proofs.lemmas.Bool.Decides.{nat_tests}
use Rattle.qc_base.specs.Grammar.{IsBytes}
use Rattle.qc_base.specs.declared.side.Dir.TheVariants.{Bi, Uni}
use Rattle.qc_base.proofs.Exact.{Ends, exact_give}
use Rattle.qc_frame.specs.Frame.{FrameValue}
use Rattle.qc_frame.specs.FrameReading.{Row, pick, rows, fields_at}
use Rattle.qc_base.specs.Spelling.{bit}
use Rattle.qc_frame.specs.FrameSpelling.{stream_type}
use Rattle.qc_frame.specs.FrameGrammar as grammar
use Rattle.qc_frame.specs.FrameGrammar.{Fields}
use Rattle.qc_frame.specs.declared.frames.FrameOf.TheVariants as frames
use Rattle.qc_frame.proofs.EachKind as kind

-- ---- what the grammar says is read

pub fields_again : (f : FrameValue) (a z : List ℕ) (ty : ℕ) → Fields f a z ty → fields_at ty a ≡ Ok (f, z)
unfolding fields_at
fields_again f a z ty (grammar.is_padding s) = (exact_give frames.Padding).again a f z s
fields_again f a z ty (grammar.is_ping s) = (exact_give frames.Ping).again a f z s
fields_again f a z ty (grammar.is_ack s) = (kind.ack_exact false).again a f z s
fields_again f a z ty (grammar.is_ack_with_counts s) = (kind.ack_exact true).again a f z s
fields_again f a z ty (grammar.is_reset_stream s) = kind.reset_stream_exact.again a f z s
fields_again f a z ty (grammar.is_stop_sending s) = kind.stop_sending_exact.again a f z s
fields_again f a z ty (grammar.is_crypto s) = kind.crypto_exact.again a f z s
fields_again f a z ty (grammar.is_new_token s) = kind.new_token_exact.again a f z s
fields_again f a z ty (grammar.is_stream false false false s) = (kind.stream_exact false false false).again a f z s
fields_again f a z ty (grammar.is_stream false false true s) = (kind.stream_exact false false true).again a f z s
fields_again f a z ty (grammar.is_stream false true false s) = (kind.stream_exact false true false).again a f z s
fields_again f a z ty (grammar.is_stream false true true s) = (kind.stream_exact false true true).again a f z s
fields_again f a z ty (grammar.is_stream true false false s) = (kind.stream_exact true false false).again a f z s
fields_again f a z ty (grammar.is_stream true false true s) = (kind.stream_exact true false true).again a f z s
fields_again f a z ty (grammar.is_stream true true false s) = (kind.stream_exact true true false).again a f z s
fields_again f a z ty (grammar.is_stream true true true s) = (kind.stream_exact true true true).again a f z s
fields_again f a z ty (grammar.is_max_data s) = kind.max_data_exact.again a f z s
fields_again f a z ty (grammar.is_max_stream_data s) = kind.max_stream_data_exact.again a f z s
fields_again f a z ty (grammar.is_max_streams Bi s) = (kind.max_streams_exact Bi).again a f z s
fields_again f a z ty (grammar.is_max_streams Uni s) = (kind.max_streams_exact Uni).again a f z s
fields_again f a z ty (grammar.is_data_blocked s) = kind.data_blocked_exact.again a f z s
fields_again f a z ty (grammar.is_stream_data_blocked s) = kind.stream_data_blocked_exact.again a f z s
fields_again f a z ty (grammar.is_streams_blocked Bi s) = (kind.streams_blocked_exact Bi).again a f z s
fields_again f a z ty (grammar.is_streams_blocked Uni s) = (kind.streams_blocked_exact Uni).again a f z s
fields_again f a z ty (grammar.is_new_connection_id s) = kind.new_connection_id_exact.again a f z s
fields_again f a z ty (grammar.is_retire_connection_id s) = kind.retire_connection_id_exact.again a f z s
fields_again f a z ty (grammar.is_path_challenge s) = kind.path_challenge_exact.again a f z s
fields_again f a z ty (grammar.is_path_response s) = kind.path_response_exact.again a f z s
fields_again f a z ty (grammar.is_connection_close s) = kind.connection_close_exact.again a f z s
fields_again f a z ty (grammar.is_application_close s) = kind.application_close_exact.again a f z s
fields_again f a z ty (grammar.is_handshake_done s) = (exact_give frames.HandshakeDone).again a f z s
fields_again f a z ty (grammar.is_datagram s) = (kind.datagram_exact false).again a f z s
fields_again f a z ty (grammar.is_datagram_with_length s) = (kind.datagram_exact true).again a f z s

-- ---- what is read is what the grammar says

-- the reader of each row whose test holds, where it reads the frame, makes P hold
Each : Type 0 → List ℕ → FrameValue → List ℕ → List Row → Type 0
Each P a f z [] = Unit {0}
Each P a f z (row ∷ others) = (row.0 ≡ true → row.1 a ≡ Ok (f, z) → P) × Each P a f z others

by_row : (P : Type 0) (test : Bool) (a : List ℕ) (f : FrameValue) (z : List ℕ) (row : Row) (others : List Row) → row.0 ≡ test
    → (row.0 ≡ true → row.1 a ≡ Ok (f, z) → P) → (pick others a ≡ Ok (f, z) → P) → cond test (row.1 a) (pick others a) ≡ Ok (f, z) → P
by_row P true a f z row others t here there e = here t e
by_row P false a f z row others t here there e = there e

pick_takes : (P : Type 0) (a : List ℕ) (f : FrameValue) (z : List ℕ) (table : List Row) → Each P a f z table → pick table a ≡ Ok (f, z) → P
unfolding Each
pick_takes P a f z [] each e = cc
pick_takes P a f z (row ∷ others) each e = by_row P row.0 a f z row others refl each.0 (λ there. pick_takes P a f z others each.1 there) e

by_type : (f : FrameValue) (a z : List ℕ) (n ty : ℕ) → (ty == n) ≡ true → Fields f a z n → Fields f a z ty
by_type f a z n ty t s = let e : n ≡ ty = grind (arith, nat_tests) in subst (λ (m : ℕ). Fields f a z m) e s

bit_is : (n worth : ℕ) → n < 2 → bit (n == 1) worth ≡ worth * n
bit_is zero worth h = omega arith
bit_is (suc zero) worth h = omega arith
bit_is (suc (suc n)) worth h = absurd (omega arith)

stream_type_is : (ty : ℕ) → 8 ≤ ty → ty ≤ 15 → stream_type (ty / 4 % 2 == 1) (ty / 2 % 2 == 1) (ty % 2 == 1) ≡ ty
stream_type_is ty low high =
    let four : ty / 4 % 2 < 2 = omega arith in
    let two : ty / 2 % 2 < 2 = omega arith in
    let one : ty % 2 < 2 = omega arith in
    rw (bit_is (ty / 4 % 2) 4 four, bit_is (ty / 2 % 2) 2 two, bit_is (ty % 2) 1 one) (omega arith)

by_stream_type : (f : FrameValue) (a z : List ℕ) (ty : ℕ) → (nat_le 0x08 ty && nat_le ty 0x0f) ≡ true
    → Fields f a z (stream_type (ty / 4 % 2 == 1) (ty / 2 % 2 == 1) (ty % 2 == 1)) → Fields f a z ty
by_stream_type f a z ty t s =
    let low : 8 ≤ ty = grind (arith, nat_tests) in
    let high : ty ≤ 15 = grind (arith, nat_tests) in
    subst (λ (m : ℕ). Fields f a z m) (stream_type_is ty low high) s

pub fields_takes : (f : FrameValue) (a z : List ℕ) (ty : ℕ) → IsBytes a → fields_at ty a ≡ Ok (f, z) → Fields f a z ty
unfolding fields_at Each
fields_takes f a z ty h e = pick_takes (Fields f a z ty) a f z (rows ty) ((
  (λ t e. by_type f a z 0x00 ty t (grammar.is_padding ((exact_give frames.Padding).takes a f z h e))),
  (
    (λ t e. by_type f a z 0x01 ty t (grammar.is_ping ((exact_give frames.Ping).takes a f z h e))),
    (
      (λ t e. by_type f a z 0x02 ty t (grammar.is_ack ((kind.ack_exact false).takes a f z h e))),
      (
        (λ t e. by_type f a z 0x03 ty t (grammar.is_ack_with_counts ((kind.ack_exact true).takes a f z h e))),
        (
          (λ t e. by_type f a z 0x04 ty t (grammar.is_reset_stream (kind.reset_stream_exact.takes a f z h e))),
          (
            (λ t e. by_type f a z 0x05 ty t (grammar.is_stop_sending (kind.stop_sending_exact.takes a f z h e))),
            (
              (λ t e. by_type f a z 0x06 ty t (grammar.is_crypto (kind.crypto_exact.takes a f z h e))),
              (
                (λ t e. by_type f a z 0x07 ty t (grammar.is_new_token (kind.new_token_exact.takes a f z h e))),
                (
                  (λ t e. by_stream_type f a z ty t (grammar.is_stream (ty / 4 % 2 == 1) (ty / 2 % 2 == 1) (ty % 2 == 1) ((kind.stream_exact (ty / 4 % 2 == 1) (ty / 2 % 2 == 1) (ty % 2 == 1)).takes a f z h e))),
                  (
                    (λ t e. by_type f a z 0x10 ty t (grammar.is_max_data (kind.max_data_exact.takes a f z h e))),
                    (
                      (λ t e. by_type f a z 0x11 ty t (grammar.is_max_stream_data (kind.max_stream_data_exact.takes a f z h e))),
                      (
                        (λ t e. by_type f a z 0x12 ty t (grammar.is_max_streams Bi ((kind.max_streams_exact Bi).takes a f z h e))),
                        (
                          (λ t e. by_type f a z 0x13 ty t (grammar.is_max_streams Uni ((kind.max_streams_exact Uni).takes a f z h e))),
                          (
                            (λ t e. by_type f a z 0x14 ty t (grammar.is_data_blocked (kind.data_blocked_exact.takes a f z h e))),
                            (
                              (λ t e. by_type f a z 0x15 ty t (grammar.is_stream_data_blocked (kind.stream_data_blocked_exact.takes a f z h e))),
                              (
                                (λ t e. by_type f a z 0x16 ty t (grammar.is_streams_blocked Bi ((kind.streams_blocked_exact Bi).takes a f z h e))),
                                (
                                  (λ t e. by_type f a z 0x17 ty t (grammar.is_streams_blocked Uni ((kind.streams_blocked_exact Uni).takes a f z h e))),
                                  (
                                    (λ t e. by_type f a z 0x18 ty t (grammar.is_new_connection_id (kind.new_connection_id_exact.takes a f z h e))),
                                    (
                                      (λ t e. by_type f a z 0x19 ty t (grammar.is_retire_connection_id (kind.retire_connection_id_exact.takes a f z h e))),
                                      (
                                        (λ t e. by_type f a z 0x1a ty t (grammar.is_path_challenge (kind.path_challenge_exact.takes a f z h e))),
                                        (
                                          (λ t e. by_type f a z 0x1b ty t (grammar.is_path_response (kind.path_response_exact.takes a f z h e))),
                                          (
                                            (λ t e. by_type f a z 0x1c ty t (grammar.is_connection_close (kind.connection_close_exact.takes a f z h e))),
                                            (
                                              (λ t e. by_type f a z 0x1d ty t (grammar.is_application_close (kind.application_close_exact.takes a f z h e))),
                                              (
                                                (λ t e. by_type f a z 0x1e ty t (grammar.is_handshake_done ((exact_give frames.HandshakeDone).takes a f z h e))),
                                                (
                                                  (λ t e. by_type f a z 0x30 ty t (grammar.is_datagram ((kind.datagram_exact false).takes a f z h e))),
                                                  (
                                                    (λ t e. by_type f a z 0x31 ty t (grammar.is_datagram_with_length ((kind.datagram_exact true).takes a f z h e))),
                                                    tt,
                                                  ),
                                                ),
                                              ),
                                            ),
                                          ),
                                        ),
                                      ),
                                    ),
                                  ),
                                ),
                              ),
                            ),
                          ),
                        ),
                      ),
                    ),
                  ),
                ),
              ),
            ),
          ),
        ),
      ),
    ),
  ),
)) e

pub fields_end : (f : FrameValue) (a z : List ℕ) (ty : ℕ) → fields_at ty a ≡ Ok (f, z) → Ends a z
unfolding fields_at Each
fields_end f a z ty e = pick_takes (Ends a z) a f z (rows ty) ((
  (λ t e. (exact_give frames.Padding).ends a f z e),
  (
    (λ t e. (exact_give frames.Ping).ends a f z e),
    (
      (λ t e. (kind.ack_exact false).ends a f z e),
      (
        (λ t e. (kind.ack_exact true).ends a f z e),
        (
          (λ t e. kind.reset_stream_exact.ends a f z e),
          (
            (λ t e. kind.stop_sending_exact.ends a f z e),
            (
              (λ t e. kind.crypto_exact.ends a f z e),
              (
                (λ t e. kind.new_token_exact.ends a f z e),
                (
                  (λ t e. (kind.stream_exact (ty / 4 % 2 == 1) (ty / 2 % 2 == 1) (ty % 2 == 1)).ends a f z e),
                  (
                    (λ t e. kind.max_data_exact.ends a f z e),
                    (
                      (λ t e. kind.max_stream_data_exact.ends a f z e),
                      (
                        (λ t e. (kind.max_streams_exact Bi).ends a f z e),
                        (
                          (λ t e. (kind.max_streams_exact Uni).ends a f z e),
                          (
                            (λ t e. kind.data_blocked_exact.ends a f z e),
                            (
                              (λ t e. kind.stream_data_blocked_exact.ends a f z e),
                              (
                                (λ t e. (kind.streams_blocked_exact Bi).ends a f z e),
                                (
                                  (λ t e. (kind.streams_blocked_exact Uni).ends a f z e),
                                  (
                                    (λ t e. kind.new_connection_id_exact.ends a f z e),
                                    (
                                      (λ t e. kind.retire_connection_id_exact.ends a f z e),
                                      (
                                        (λ t e. kind.path_challenge_exact.ends a f z e),
                                        (
                                          (λ t e. kind.path_response_exact.ends a f z e),
                                          (
                                            (λ t e. kind.connection_close_exact.ends a f z e),
                                            (
                                              (λ t e. kind.application_close_exact.ends a f z e),
                                              (
                                                (λ t e. (exact_give frames.HandshakeDone).ends a f z e),
                                                (
                                                  (λ t e. (kind.datagram_exact false).ends a f z e),
                                                  (
                                                    (λ t e. (kind.datagram_exact true).ends a f z e),
                                                    tt,
                                                  ),
                                                ),
                                              ),
                                            ),
                                          ),
                                        ),
                                      ),
                                    ),
                                  ),
                                ),
                              ),
                            ),
                          ),
                        ),
                      ),
                    ),
                  ),
                ),
              ),
            ),
          ),
        ),
      ),
    ),
  ),
)) e
