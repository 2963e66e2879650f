-- Two worked rows, by which the definitions compute the log of a run: a trial in which a datagram is granted, its open ends, its
-- close ends and settles it; and a serving run that a fault of the disk cuts behind a settled line. Any rules that grant the
-- datagram will do, so its digest is the datagram itself here.
use Rattle.std.proofs.Common.{◌≡◌, ℕ, ◌<◌, true, List, [], ◌∷◌, ◌++◌, None, refl, arith}
use Rattle.std.specs.Prelude.{codes}
use Rattle.std.specs.Fmt.{digits}
use Rattle.fk_base.specs.declared.address.Ip4.{Ip4}
use Rattle.fk_base.specs.declared.pair.Pair.{Pair}
use Rattle.fk_base.specs.declared.pair.Proto.TheVariants.{Tcp}
use Rattle.fk_base.specs.declared.purpose.Purpose.TheVariants.{Open, Close}
use Rattle.fk_trace.specs.declared.change.Change.{Change}
use Rattle.fk_trace.specs.declared.change.Change.TheVariants.{Open as OpenChange, Done}
use Rattle.fk_trace.specs.declared.change.OpenRecord.{OpenRecord}
use Rattle.fk_trace.specs.Trace.{Event, Item}
use Rattle.fk_trace.specs.Trace.Event.{Turn, Began, Ended}
use Rattle.fk_trace.specs.Decision.{Input, Permit, Rules}
use Rattle.fk_trace.specs.Decision.Input.{Quiet, Datagram}
use Rattle.fk_trace.specs.Decision.Verdict.{Granted}
use Rattle.fk_run.specs.Turn.{TakenTurn}
use Rattle.fk_run.specs.Run.{Run}
use Rattle.fk_run.specs.Run.Ending.{AtEnd, AtDiskFault, AtWantOfMemory}
use Rattle.fk_log.specs.declared.verbosity.Verbosity.TheVariants as verbosity
use Rattle.fk_log.specs.Log.{log_text, MayTell}
use Rattle.fk_log.specs.Log.Opening.{Opened, Unopened}
use Rattle.fk_log.specs.Log.RefusalLine.{Told, Untold}

abbrev source : Ip4
source = record { 0 = 167772167 }

has_22 : 0 < 22
has_22 = omega arith

abbrev pair : Pair
pair = record { proto = Tcp; port = 22; has_port = has_22 }

abbrev permit : Permit
permit = record {
  stanza = 1;
  stamp = 1700000000;
  seconds = 30;
  ip = source;
  pair = pair;
  opening = codes "/bin/o" ∷ [];
  closing = codes "/bin/c" ∷ [];
}

abbrev rules : Rules
rules = record {
  misshapen = λ datagram. None;
  digest = λ datagram. datagram;
  admit = λ moment from datagram. Granted permit;
  room = record { limit = 10; keep = 86400; fits = λ ledger. true };
}

abbrev datagram : List ℕ
datagram = codes "datagram"

abbrev item : OpenRecord
item = record {
  id = 1;
  digest = record { 0 = datagram };
  stamp = 1700000000;
  moment = 1700000000;
  due = 1700000030;
  ip = source;
  pair = pair;
  close = codes "/bin/c" ∷ [];
}

abbrev told : Event → Item
told event = record { event = event; moments = 0; faults = 0 }

abbrev turn : ℕ → Input → List Item → List Change → TakenTurn
turn moment input items changes = record { turn = record { moment = moment; input = input }; items = items; changes = changes }

abbrev line : List ℕ → List ℕ → List ℕ
line front others = front ++ 10 ∷ others

abbrev trial : Run
trial = record {
  rules = rules;
  ledger = [];
  faults = 0;
  turns =
      turn 1700000000 (Datagram source datagram) (told (Turn 1) ∷ told (Began 1 (Open 1) (codes "/bin/o" ∷ [])) ∷ []) (OpenChange item ∷ [])
      ∷ turn 1700000005 (Datagram source datagram) (told (Turn 2) ∷ told (Ended 1 true) ∷ []) []
      ∷ turn 1700000030 Quiet (told (Turn 3) ∷ told (Began 2 (Close 1) (codes "/bin/c" ∷ [])) ∷ []) []
      ∷ turn 1700000035 Quiet (told (Turn 4) ∷ told (Ended 2 true) ∷ []) (Done 1 ∷ [])
      ∷ [];
  ending = AtEnd;
}

abbrev trial_summary : List ℕ
trial_summary = codes "summary turns 4 opens 1 closes 1 settled 1 refused 1 live 0"

log_of_trial : log_text verbosity.Normal Opened Told trial
    ≡ line (codes "ready 0") (line (codes "1700000000 from 10.0.0.7 granted 1 stanza 1 until 1700000030") (line (codes "1700000000 open 1 /bin/o")
    (line (codes "1700000005 ended open 1 good") (line (codes "1700000005 from 10.0.0.7 refused replay") (line (codes "1700000030 close 1 /bin/c")
    (line (codes "1700000035 ended close 1 good") (line (codes "1700000035 settled 1") (line trial_summary []))))))))
unfolding digits
log_of_trial = refl

quiet_log_of_trial : log_text verbosity.Quiet Opened Told trial ≡ line trial_summary []
unfolding digits
quiet_log_of_trial = refl

-- its refusal is told
may_tell_trial : MayTell trial Told
may_tell_trial = refl

-- The close of the record that the run found is started, ends and is settled; then another datagram's record cannot be written.
abbrev cut : Run
cut = record {
  rules = rules;
  ledger = OpenChange item ∷ [];
  faults = 0;
  turns =
      turn 1700000030 Quiet (told (Turn 1) ∷ told (Began 1 (Close 1) (codes "/bin/c" ∷ [])) ∷ []) []
      ∷ turn 1700000031 (Datagram source (codes "other")) (told (Turn 2) ∷ told (Ended 1 true) ∷ []) (Done 1 ∷ [])
      ∷ [];
  ending = AtDiskFault;
}

log_of_cut : log_text verbosity.Verbose Opened Untold cut
    ≡ line (codes "ready 1") (line (codes "1700000030 turn 1") (line (codes "1700000030 close 1 /bin/c")
    (line (codes "1700000031 turn 2") (line (codes "1700000031 ended close 1 good") (line (codes "1700000031 settled 1") (line (codes "disk failed") []))))))
unfolding digits
log_of_cut = refl

may_tell_cut : MayTell cut Untold
may_tell_cut = refl

-- a run that could not open its feed for want of memory writes nothing
log_of_none : log_text verbosity.Verbose Unopened Told (record cut { turns = []; ending = AtWantOfMemory }) ≡ []
log_of_none = refl
