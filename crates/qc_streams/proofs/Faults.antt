-- What a receiving side refuses, the connection refuses
use Rattle.std.proofs.Common.{Option, ap}
use Rattle.std.specs.Option.{option_map}
use Rattle.qc_recv.specs.Receiving.{IsRefusal as IsSideRefusal}
use Rattle.qc_recv.specs.declared.fault.Refusal.{Refusal as SideRefusal}
use Rattle.qc_recv.specs.declared.fault.FrameFault.{FrameFault}
use Rattle.qc_recv.specs.declared.fault.FrameFault.TheVariants.{Refused as SideRefused, OutOfMemory as SideMemory}
use Rattle.qc_streams.specs.declared.fault.Refusal.{Refusal}
use Rattle.qc_streams.specs.declared.fault.Refusal.TheVariants.{Side}
use Rattle.qc_streams.specs.declared.fault.StreamFault.TheVariants.{OutOfMemory}
use Rattle.qc_streams.specs.Refusals.{IsRefusal, fault_of}

pub side_refused : (e : FrameFault) (refusal : Option SideRefusal) → IsSideRefusal e refusal → IsRefusal (fault_of e) (option_map Side refusal)
unfolding IsSideRefusal IsRefusal
side_refused (SideRefused x) refusal is = ap (option_map Side) is
side_refused SideMemory refusal is = tt

pub memory_is_free : (refusal : Option Refusal) → IsRefusal OutOfMemory refusal
unfolding IsRefusal
memory_is_free refusal = tt
