use Rattle.qc_laws.proofs.RunsFit.{run_keeps_fit}
use Rattle.qc_laws.proofs.laws.keys_fit_their_session.Goals as goal

pub returns : goal.returns
returns g c s last k is xs run before small fits =
    run_keeps_fit _ g.U.Session.Session
    (record {
      sound_read = g.met.U.Session.Session.sound_read;
      sound_write = g.met.U.Session.Session.sound_write;
      sound_next = g.met.U.Session.Session.sound_next;
      changes_most = g.met.U.Session.Session.changes_most;
      changes_write = g.met.U.Session.Session.changes_write;
      changes_read = g.met.U.Session.Session.changes_read;
      changes_next = g.met.U.Session.Session.changes_next;
      given_keys = g.met.U.Session.Session.given_keys;
      data_read = g.met.U.Session.Session.data_read;
      data_write = g.met.U.Session.Session.data_write;
      data_next = g.met.U.Session.Session.data_next;
      epochs_read = g.met.U.Session.Session.epochs_read;
      epochs_write = g.met.U.Session.Session.epochs_write;
      epochs_next = g.met.U.Session.Session.epochs_next;
      first_epoch = g.met.U.Session.Session.first_epoch;
      given_next = g.met.U.Session.Session.given_next;
      next_epoch = g.met.U.Session.Session.next_epoch;
      epoch_read = g.met.U.Session.Session.epoch_read;
      epoch_write = g.met.U.Session.Session.epoch_write;
    })
    k s is xs last run before small fits
