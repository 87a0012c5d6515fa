-- What a connection draws of its source of random words, and in which order.
use Rattle.std.specs.Prelude.{ℕ, ◌+◌, ◌%◌, ◌==◌, ◌&&◌, Bool, nat_lt, if◌then◌else◌}
use Rattle.rand_core.specs.Stream.{Stream, fill_bytes, next_u32, next_u64}
use Rattle.qc_token.specs.Nonce.{nonce_of}

-- the next word of 64 bits
abbrev pub word : Stream → ℕ
word s = (next_u64 s).0

-- the words behind it
abbrev pub behind : Stream → Stream
behind s = (next_u64 s).1

-- the next bit
abbrev pub bit : Stream → Bool
bit s = (next_u32 s).0 % 2 == 1

-- the words behind it
abbrev pub behind_bit : Stream → Stream
behind_bit s = (next_u32 s).1

-- the number of the next sixteen bytes, with which a token is made
abbrev pub nonce : Stream → ℕ
nonce s = nonce_of (fill_bytes 16 s).0

-- the words behind them
abbrev pub behind_nonce : Stream → Stream
behind_nonce s = (fill_bytes 16 s).1

-- As a connection is made it draws first how many packets the first 1-RTT keys seal before others take their place, from 10 to 999;
abbrev pub key_phase_of : Stream → ℕ
key_phase_of s = 10 + word s % 990

-- then whether it spins, where the configuration allows it: seven of eight connections do (RFC 9000, section 17.4);
abbrev pub spins_of : (allowed : Bool) → Stream → Bool
spins_of allowed s = allowed && nat_lt (word (behind s) % 8) 7

-- and then, of the words behind these, which number of 1-RTT packets it skips first (RFC 9000, section 21.4)
abbrev pub filter_words : (allowed : Bool) → Stream → Stream
filter_words allowed s = if allowed then behind (behind s) else behind s

-- the words behind all that
abbrev pub words_left : (allowed : Bool) → Stream → Stream
words_left allowed s = behind (filter_words allowed s)
