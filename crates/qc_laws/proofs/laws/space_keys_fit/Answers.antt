use Rattle.qc_laws.proofs.SpacesFit.{client_spaces_fit, run_spaces_fit, server_spaces_fit}
use Rattle.qc_laws.proofs.laws.space_keys_fit.Goals as goal

pub returns-clause-run : goal.returns-clause-run
returns-clause-run g c s last k is xs run fits =
    run_spaces_fit _ g.U.Session.Session
    (record {
      sound_read = g.met.U.Session.Session.sound_read;
      sound_write = g.met.U.Session.Session.sound_write;
      sound_next = g.met.U.Session.Session.sound_next;
      changes_write = g.met.U.Session.Session.changes_write;
      changes_read = g.met.U.Session.Session.changes_read;
      changes_next = g.met.U.Session.Session.changes_next;
      given_keys = g.met.U.Session.Session.given_keys;
      handshake_read = g.met.U.Session.Session.handshake_read;
      handshake_write = g.met.U.Session.Session.handshake_write;
      handshake_next = g.met.U.Session.Session.handshake_next;
      initial_read = g.met.U.Session.Session.initial_read;
      initial_write = g.met.U.Session.Session.initial_write;
      initial_next = g.met.U.Session.Session.initial_next;
    })
    k s is xs last run fits

pub returns-clause-client : goal.returns-clause-client
returns-clause-client g c session words fixed remote first_cid token transport congestion time fresh client cid side =
    let sound = g.met.U.Session.Session.fresh_sound session fresh in
    client_spaces_fit _ g.U.Session.Session session words fixed remote first_cid token transport congestion time cid side (g.met.U.Session.Session.fresh_changes session fresh)
    (g.met.U.Session.Session.hello_no_keys session fresh client) (g.met.U.Session.Session.changes_write session sound) (g.met.U.Session.Session.sound_write session sound)
    (g.met.U.Session.Session.initial_write session first_cid _ sound)

pub returns-clause-server : goal.returns-clause-server
returns-clause-server g c session words fixed remote remote_cid validated issuer transport congestion time fresh side =
    server_spaces_fit _ g.U.Session.Session session words fixed remote remote_cid validated issuer transport congestion time side (g.met.U.Session.Session.fresh_sound session fresh) (g.met.U.Session.Session.fresh_changes session fresh)
