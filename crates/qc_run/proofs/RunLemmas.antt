-- The run of the client that a script sets up.
use Rattle.std.proofs.Common.{◌≡◌, ℕ, List, Option, None, Bool, true, false, refl, ap, sym, ◌∙◌, subst}
use Rattle.std.specs.Prelude.{Some, IfSome}
use Rattle.std.specs.List.{All}
use Rattle.qc_base.specs.declared.side.Side.{Side}
use Rattle.qc_script.specs.Fields.{IsAddress}
use Rattle.qc_script.specs.declared.settings.Settings.{Settings}
use Rattle.qc_base.specs.declared.mask.HeaderMask.{Ghosts as HeaderMaskGhosts}
use Rattle.qc_base.specs.declared.side.Side.TheVariants.{Client, Server}
use Rattle.qc_text.specs.OneText.{IsInRange, IsPlain, IsPlainAddress}
use Rattle.qc_conn.specs.Seen.{Seen}
use Rattle.qc_conn.specs.RefusedText.{refused_text}
use Rattle.qc_text.specs.TraceText.{trace_text}
use Rattle.qc_conn.specs.Refusal.{NamesInput, RefusedAt, TakesAll}
use Rattle.qc_conn.specs.declared.driving.DriveError.{DriveError}
use Rattle.qc_conn.specs.declared.driving.DriveKind.{DriveKind}
use Rattle.qc_run.specs.declared.perform.Told.{Told}
use Rattle.qc_run.specs.declared.perform.Told.TheVariants.{Whole, Refused}
use Rattle.qc_crypto.specs.declared.packet_key.PacketKey.{Ghosts as PacketKeyGhosts}
use Rattle.qc_token.specs.declared.time_source.FixedTime.{FixedTime}
use Rattle.qc_toy.specs.declared.token_keys.ToyTokenKey.{ToyTokenKey}
use Rattle.qc_state.specs.First.{allowed_by, first_view, server_view, fixed_of}
use Rattle.qc_state.specs.Run.{Run}
use Rattle.qc_state.specs.Types.{meaning}
use Rattle.qc_state.specs.View.{View, ideal}
use Rattle.qc_state.specs.declared.input.Input.{Input}
use Rattle.qc_state.specs.declared.trace.Step.{Step}
use Rattle.qc_toy.specs.declared.header_key.ToyHeaderKey.{ToyHeaderKey}
use Rattle.qc_toy.specs.declared.packet_key.ToyPacketKey.{ToyPacketKey}
use Rattle.qc_toy.specs.declared.session.ToySession.{ToySession}
use Rattle.qc_path.specs.NewReno.{Reno, new_reno}
use Rattle.qc_path.specs.declared.controller.Controller.{Ghosts as ControllerGhosts}
use Rattle.qc_recovery.specs.Paths.{first_size}
use Rattle.qc_recovery.specs.TransportValues.{TransportValues}
use Rattle.std.specs.declared.net.ip_addr.IpAddr.{IpAddr}
use Rattle.rand_core.specs.Stream.{Stream}
use Rattle.qc_run.specs.Words.{words_named, words_of}
use Rattle.qc_run.specs.declared.random.ScriptRandom.{ScriptRandom}
use Rattle.std.specs.declared.net.socket_addr.SocketAddr.{SocketAddr}
use Rattle.qc_run.specs.RunText.{mtud_of, IsAddressOf, IsScriptEnd, IsToyRun, IsToyRefusal, IsToldRun, IsRefusalTold, Sessions, client_session, server_session, script_client, script_server, view_for, clock_of, sent_of, TOKEN_KEY, local_of, remote_of, first_of, token_of, start_of, validated_of, transport_of, INITIAL_WINDOW, toy, toy_token}

-- its trace, as a text
toy_run_of : (s : Sessions) (h : HeaderMaskGhosts ToyHeaderKey) (p : PacketKeyGhosts ToyPacketKey) (c : ControllerGhosts Reno) (set : Settings) (end : Seen toy ScriptRandom) (inputs : List Input) (steps : List Step) (last : View toy) (text : List ℕ)
    → IsScriptEnd s h p c set end → TakesAll (meaning s h p c toy_token) 0 (ideal words_of end.core) inputs steps last → Run (meaning s h p c toy_token) 0 (ideal words_of end.core) inputs steps last → text ≡ trace_text steps
    → ((other : List Step) → All IsInRange other → All IsPlain other → text ≡ trace_text other → other ≡ steps) → IsToyRun s h p c set inputs text
toy_run_of s h p c set end inputs steps last text is_end valid run spelled only = record {
  remote = is_end.remote;
  address = is_end.address;
  run = record { steps = steps; last = last; valid = subst (λ (v : View toy). TakesAll (meaning s h p c toy_token) 0 v inputs steps last) is_end.made valid; run = subst (λ (v : View toy). Run (meaning s h p c toy_token) 0 v inputs steps last) is_end.made run; spelled = spelled; only = only };
}

-- so for inputs under another name
pub toy_run : (s : Sessions) (h : HeaderMaskGhosts ToyHeaderKey) (p : PacketKeyGhosts ToyPacketKey) (c : ControllerGhosts Reno) (set : Settings) (end : Seen toy ScriptRandom) (given inputs : List Input) (steps : List Step) (last : View toy) (text : List ℕ)
    → given ≡ inputs → IsScriptEnd s h p c set end → TakesAll (meaning s h p c toy_token) 0 (ideal words_of end.core) given steps last → Run (meaning s h p c toy_token) 0 (ideal words_of end.core) given steps last → text ≡ trace_text steps
    → ((other : List Step) → All IsInRange other → All IsPlain other → text ≡ trace_text other → other ≡ steps) → IsToyRun s h p c set inputs text
toy_run s h p c set end given inputs steps last text is is_end valid run spelled only = subst (λ (x : List Input). IsToyRun s h p c set x text) is (toy_run_of s h p c set end given steps last text is_end valid run spelled only)

-- its steps before an input that is refused, as a text
pub toy_refusal : (s : Sessions) (h : HeaderMaskGhosts ToyHeaderKey) (p : PacketKeyGhosts ToyPacketKey) (c : ControllerGhosts Reno) (set : Settings) (end : Seen toy ScriptRandom) (inputs : List Input) (steps : List Step) (kind : DriveKind) (last : View toy) (text : List ℕ) (failed : Bool)
    → IsScriptEnd s h p c set end → RefusedAt (meaning s h p c toy_token) (ideal words_of end.core) inputs kind steps last failed → text ≡ refused_text steps kind → IsToyRefusal s h p c set inputs text
toy_refusal s h p c set end inputs steps kind last text failed is_end refused spelled = record {
  remote = is_end.remote;
  address = is_end.address;
  refused = record {
    steps = steps;
    kind = kind;
    last = last;
    refused = subst (λ (v : View toy). RefusedAt (meaning s h p c toy_token) v inputs kind steps last false) is_end.made
        (record { input = refused.input; behind = refused.behind; here = refused.here; first = refused.first; place = refused.place; before = refused.before; alive = refl });
    spelled = spelled;
  };
}

-- what is told of the error of such a drive
pub told_refusal : (s : Sessions) (h : HeaderMaskGhosts ToyHeaderKey) (p : PacketKeyGhosts ToyPacketKey) (c : ControllerGhosts Reno) (set : Settings) (end : Seen toy ScriptRandom) (given inputs : List Input) (error : DriveError) (last : View toy) (told : Told) (failed : Bool)
    → given ≡ inputs → IsScriptEnd s h p c set end → (NamesInput error.kind → RefusedAt (meaning s h p c toy_token) (ideal words_of end.core) given error.kind error.done last failed) → IsRefusalTold error told
    → IsToldRun (IsToyRun s h p c) (IsToyRefusal s h p c) set inputs told
told_refusal s h p c set end given inputs error last (Whole text) failed is is_end refused told = absurd told
told_refusal s h p c set end given inputs error last (Refused text) failed is is_end refused told =
    subst (λ (x : List Input). IsToyRefusal s h p c set x text.items) is (toy_refusal s h p c set end given error.done error.kind last text.items failed is_end (refused told.0) told.1)

-- the usual address has neither flow label nor scope, and so has one that a line gives
pub address_plain : (given : Option SocketAddr) (address : SocketAddr) → IfSome given IsAddress → IsAddressOf given address → IsPlainAddress address
address_plain None address h is = (is.plain.1, is.plain.2)
address_plain (Some a) address h is = subst IsPlainAddress (sym is) (h.flow, h.scope)

-- what the setup is made of makes the client that the set lines make
client_made : (s : Sessions) (h : HeaderMaskGhosts ToyHeaderKey) (p : PacketKeyGhosts ToyPacketKey) (c : ControllerGhosts Reno) (set : Settings) (view : View toy) (session : ToySession) (words : Stream) (version : ℕ) (local : List ℕ) (lifetime : Option ℕ) (ip : Option IpAddr) (allow : Bool) (transport : TransportValues) (control : ℕ) (grease : Bool) (remote : SocketAddr) (first token : List ℕ) (time : ℕ)
    → session ≡ client_session set → words ≡ words_named set.random → version ≡ 1 → local ≡ local_of set → lifetime ≡ None → ip ≡ None → allow ≡ mtud_of set → transport ≡ transport_of set → control ≡ INITIAL_WINDOW → grease ≡ true → first ≡ remote_of set → token ≡ token_of set → time ≡ start_of set
    → view ≡ first_view (meaning s h p c toy_token) session words (fixed_of Client version local first lifetime false ip (allowed_by allow transport) grease words) remote first token (allowed_by allow transport) (new_reno control (first_size (allowed_by allow transport) None)) time → view ≡ script_client s h p c set remote
client_made s h p c set view session words version local lifetime ip allow transport control grease remote first token time es ew ev el em ei ea et ec eg ef ek en e = rw (es, ew, ev, el, em, ei, ea, et, ec, eg, ef, ek, en) at e

-- and so the server
server_made : (s : Sessions) (h : HeaderMaskGhosts ToyHeaderKey) (p : PacketKeyGhosts ToyPacketKey) (c : ControllerGhosts Reno) (set : Settings) (view : View toy) (session : ToySession) (words : Stream) (version : ℕ) (local : List ℕ) (lifetime : Option ℕ) (preferred : Bool) (ip : Option IpAddr) (allow : Bool) (transport : TransportValues) (control : ℕ) (grease : Bool) (remote : SocketAddr) (first remote_cid : List ℕ) (validated : Bool) (key : ToyTokenKey) (clock : FixedTime) (sent : ℕ) (time : ℕ)
    → session ≡ server_session set → words ≡ words_named set.random → version ≡ 1 → local ≡ local_of set → lifetime ≡ None → preferred ≡ false → ip ≡ None → allow ≡ mtud_of set → transport ≡ transport_of set → control ≡ INITIAL_WINDOW → grease ≡ true → first ≡ first_of set → remote_cid ≡ remote_of set → validated ≡ validated_of set → key ≡ TOKEN_KEY → clock ≡ clock_of set.clock → sent ≡ sent_of set → time ≡ start_of set
    → view ≡ server_view (meaning s h p c toy_token) session words (fixed_of Server version local first lifetime preferred ip (allowed_by allow transport) grease words) remote remote_cid validated (record { key = key; time = clock; sent = sent }) (allowed_by allow transport) (new_reno control (first_size (allowed_by allow transport) None)) time → view ≡ script_server s h p c set remote
server_made s h p c set view session words version local lifetime preferred ip allow transport control grease remote first remote_cid validated key clock sent time es ew ev el em ep ei ea et ec eg ef er eu ek ed eo en e =
    rw (es, ew, ev, el, em, ep, ei, ea, et, ec, eg, ef, er, eu, ek, ed, eo, en) at e

-- the end of a side is the connection that the set lines of that side make
end_of : (s : Sessions) (h : HeaderMaskGhosts ToyHeaderKey) (p : PacketKeyGhosts ToyPacketKey) (c : ControllerGhosts Reno) (set : Settings) (side : Side) (end : Seen toy ScriptRandom) (remote : SocketAddr) → set.side ≡ side → IsAddressOf set.addr remote → ideal words_of end.core ≡ view_for side s h p c set remote → IsScriptEnd s h p c set end
end_of s h p c set side end remote is address made = record { remote = remote; address = address; made = made ∙ ap (λ (x : Side). view_for x s h p c set remote) (sym is) }

pub client_end : (s : Sessions) (h : HeaderMaskGhosts ToyHeaderKey) (p : PacketKeyGhosts ToyPacketKey) (c : ControllerGhosts Reno) (set : Settings) (end : Seen toy ScriptRandom) (session : ToySession) (words : Stream) (version : ℕ) (local : List ℕ) (lifetime : Option ℕ) (ip : Option IpAddr) (allow : Bool) (transport : TransportValues) (control : ℕ) (grease : Bool) (remote : SocketAddr) (first token : List ℕ) (time : ℕ)
    → set.side ≡ Client → IsAddressOf set.addr remote → session ≡ client_session set → words ≡ words_named set.random → version ≡ 1 → local ≡ local_of set → lifetime ≡ None → ip ≡ None → allow ≡ mtud_of set → transport ≡ transport_of set → control ≡ INITIAL_WINDOW → grease ≡ true → first ≡ remote_of set → token ≡ token_of set → time ≡ start_of set
    → ideal words_of end.core ≡ first_view (meaning s h p c toy_token) session words (fixed_of Client version local first lifetime false ip (allowed_by allow transport) grease words) remote first token (allowed_by allow transport) (new_reno control (first_size (allowed_by allow transport) None)) time → IsScriptEnd s h p c set end
client_end s h p c set end session words version local lifetime ip allow transport control grease remote first token time side address es ew ev el em ei ea et ec eg ef ek en e =
    end_of s h p c set Client end remote side address (client_made s h p c set (ideal words_of end.core) session words version local lifetime ip allow transport control grease remote first token time es ew ev el em ei ea et ec eg ef ek en e)

pub server_end : (s : Sessions) (h : HeaderMaskGhosts ToyHeaderKey) (p : PacketKeyGhosts ToyPacketKey) (c : ControllerGhosts Reno) (set : Settings) (end : Seen toy ScriptRandom) (session : ToySession) (words : Stream) (version : ℕ) (local : List ℕ) (lifetime : Option ℕ) (preferred : Bool) (ip : Option IpAddr) (allow : Bool) (transport : TransportValues) (control : ℕ) (grease : Bool) (remote : SocketAddr) (first remote_cid : List ℕ) (validated : Bool) (key : ToyTokenKey) (clock : FixedTime) (sent : ℕ) (time : ℕ)
    → set.side ≡ Server → IsAddressOf set.addr remote → session ≡ server_session set → words ≡ words_named set.random → version ≡ 1 → local ≡ local_of set → lifetime ≡ None → preferred ≡ false → ip ≡ None → allow ≡ mtud_of set → transport ≡ transport_of set → control ≡ INITIAL_WINDOW → grease ≡ true → first ≡ first_of set → remote_cid ≡ remote_of set → validated ≡ validated_of set → key ≡ TOKEN_KEY → clock ≡ clock_of set.clock → sent ≡ sent_of set → time ≡ start_of set
    → ideal words_of end.core ≡ server_view (meaning s h p c toy_token) session words (fixed_of Server version local first lifetime preferred ip (allowed_by allow transport) grease words) remote remote_cid validated (record { key = key; time = clock; sent = sent }) (allowed_by allow transport) (new_reno control (first_size (allowed_by allow transport) None)) time → IsScriptEnd s h p c set end
server_end s h p c set end session words version local lifetime preferred ip allow transport control grease remote first remote_cid validated key clock sent time side address es ew ev el em ep ei ea et ec eg ef er eu ek ed eo en e =
    end_of s h p c set Server end remote side address (server_made s h p c set (ideal words_of end.core) session words version local lifetime preferred ip allow transport control grease remote first remote_cid validated key clock sent time es ew ev el em ep ei ea et ec eg ef er eu ek ed eo en e)
