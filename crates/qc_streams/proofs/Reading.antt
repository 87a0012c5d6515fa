-- What a receiving side answers to a read, the connection answers
use Rattle.std.proofs.Common.{◌≡◌, ℕ, Bool, Option, None, Some, Ok, Err, subst}
use Rattle.qc_recv.specs.declared.recv.Recv.{Recv}
use Rattle.qc_recv.specs.declared.recv.Chunk.{Chunk}
use Rattle.qc_recv.specs.declared.fault.ReadError.{ReadError}
use Rattle.qc_recv.specs.declared.fault.ReadError.TheVariants.{Reset as SideReset, Blocked as SideBlocked, OutOfMemory as SideMemory}
use Rattle.qc_recv.specs.Receiving.{IsNext, opened, is_at_end, read_refusal}
use Rattle.qc_streams.specs.Calls.{IsRead, fault_of_read}

given_so : (most : ℕ) (ordered : Bool) (r after : Recv) (chunk : Option Chunk) → read_refusal ordered r ≡ None
    → IsNext most (opened ordered r) (Ok chunk) after → IsRead most ordered r (Ok chunk)
unfolding IsNext IsRead opened is_at_end
given_so most ordered r after None fits next = (fits, next.0, next.1, next.2)
given_so most ordered r after (Some c) fits next = (fits, next.0, next.1)

failed_so : (most : ℕ) (ordered : Bool) (r after : Recv) (e : ReadError) → read_refusal ordered r ≡ None
    → IsNext most (opened ordered r) (Err e) after → IsRead most ordered r (Err (fault_of_read e))
unfolding IsNext IsRead opened is_at_end
failed_so most ordered r after (SideReset code) fits next = (fits, next.0)
failed_so most ordered r after SideBlocked fits next = (fits, next.0, next.1, next.2)
failed_so most ordered r after SideMemory fits next = tt

pub read_given : (most : ℕ) (ordered : Bool) (r before after : Recv) (chunk : Option Chunk) → read_refusal ordered r ≡ None
    → before ≡ opened ordered r → IsNext most before (Ok chunk) after → IsRead most ordered r (Ok chunk)
read_given most ordered r before after chunk fits is next =
    given_so most ordered r after chunk fits (subst (λ (x : Recv). IsNext most x (Ok chunk) after) is next)

pub read_failed : (most : ℕ) (ordered : Bool) (r before after : Recv) (e : ReadError) → read_refusal ordered r ≡ None
    → before ≡ opened ordered r → IsNext most before (Err e) after → IsRead most ordered r (Err (fault_of_read e))
read_failed most ordered r before after e fits is next =
    failed_so most ordered r after e fits (subst (λ (x : Recv). IsNext most x (Err e) after) is next)
