use Rattle.std.proofs.Common.{length, unwrap_or, Some, arith}
use Rattle.qc_frame.proofs.Lengths.{varint_size_max, varint_size_longest, length-crypto, length-connection_close, length-application_close, length-new_connection_id, length-retire_connection_id, length-datagram, ack_size_max, counts_size_max}
use Rattle.qc_frame.specs.FrameFits.{Fits}
use Rattle.qc_frame.proofs.size.greatest_sizes.Goals as goal

pub returns-clause-crypto : goal.returns-clause-crypto
returns-clause-crypto c offset body =
    omega (arith, length-crypto offset body, varint_size_max offset, varint_size_max (length body))

pub returns-clause-connection_close : goal.returns-clause-connection_close
returns-clause-connection_close c code ty reason =
    omega (arith, length-connection_close code ty reason, varint_size_max code, varint_size_max (unwrap_or ty 0), varint_size_max (length reason))

pub returns-clause-application_close : goal.returns-clause-application_close
returns-clause-application_close c code reason =
    omega (arith, length-application_close code reason, varint_size_max code, varint_size_max (length reason))

pub returns-clause-new_connection_id : goal.returns-clause-new_connection_id
returns-clause-new_connection_id c new id token =
    omega (arith, length-new_connection_id new, varint_size_max new.sequence, varint_size_max new.retire_prior_to)

pub returns-clause-retire_connection_id : goal.returns-clause-retire_connection_id
returns-clause-retire_connection_id c sequence =
    omega (arith, length-retire_connection_id sequence, varint_size_max sequence)

pub returns-clause-datagram : goal.returns-clause-datagram
returns-clause-datagram c body =
    omega (arith, length-datagram body, varint_size_max (length body))

pub returns-clause-ack : goal.returns-clause-ack
unfolding Fits
returns-clause-ack c ack fits = ack_size_max ack fits.2

pub returns-clause-counts : goal.returns-clause-counts
returns-clause-counts c counts = counts_size_max counts

pub returns-clause-crypto_reached : goal.returns-clause-crypto_reached
returns-clause-crypto_reached c offset body far long =
    omega (arith, length-crypto offset body, varint_size_longest offset far, varint_size_longest (length body) long)

pub returns-clause-connection_close_reached : goal.returns-clause-connection_close_reached
returns-clause-connection_close_reached c code ty reason high other long =
    omega (arith, length-connection_close code (Some ty) reason, varint_size_longest code high, varint_size_longest ty other, varint_size_longest (length reason) long)

pub returns-clause-new_connection_id_reached : goal.returns-clause-new_connection_id_reached
returns-clause-new_connection_id_reached c new sequence retire id token =
    omega (arith, length-new_connection_id new, varint_size_longest new.sequence sequence, varint_size_longest new.retire_prior_to retire)

pub returns-clause-retire_connection_id_reached : goal.returns-clause-retire_connection_id_reached
returns-clause-retire_connection_id_reached c sequence high =
    omega (arith, length-retire_connection_id sequence, varint_size_longest sequence high)

pub returns-clause-datagram_reached : goal.returns-clause-datagram_reached
returns-clause-datagram_reached c body long =
    omega (arith, length-datagram body, varint_size_longest (length body) long)
