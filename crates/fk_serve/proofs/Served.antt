-- What a command was run with is what it says.
use Rattle.std.proofs.Common.{◌≡◌, ◌⊎◌, ℕ, ◌≤◌, Bool, List, Option, Some, None, IfSome, refl, sym, subst, arith}
use Rattle.fk_base.specs.declared.status.Status.{Status}
use Rattle.fk_run.specs.declared.limits.Limits.{Limits}
use Rattle.fk_log.specs.declared.verbosity.Verbosity.{Verbosity}
use Rattle.fk_words.specs.declared.command.Command.TheVariants as command
use Rattle.fk_words.specs.Limits.{IsLimit}
use Rattle.fk_daemon.specs.Account.{AreLimits}
use Rattle.fk_conf.specs.declared.conf.Conf.{Conf}
use Rattle.fk_access.specs.declared.stanza.Stanza.{Stanza}
use Rattle.fk_daemon.specs.declared.task.Task.{Task}
use Rattle.fk_daemon.specs.Outside.{Outside}
use Rattle.fk_daemon.specs.Serving.{Serves}
use Rattle.fk_trial.specs.Streams.{SourceView}
use Rattle.fk_program.specs.Files.{FilesView}
use Rattle.fk_serve.specs.World.{World}
use Rattle.fk_serve.specs.Files.{Names, ReadsFiles}
use Rattle.fk_serve.specs.Private.{served_in}
use Rattle.fk_serve.specs.Running.{RefusesFiles, Runs, ServesByFiles, serving_verbosity}

few : (limit : Option ℕ) → IfSome limit IsLimit → IfSome limit (λ most. (1 ≤ most) × (most ≤ 9223372036854775807))
few None within = tt
few (Some n) within = let least = within.0 in let most : n ≤ 1000000000 = within.1 in (least, omega arith)

above : (limit : Option ℕ) → IfSome limit IsLimit → IfSome limit (λ most. 1 ≤ most)
above None within = tt
above (Some n) within = within.0

-- the limits that words give are ones that a run may have
pub limits-are : (packets turns : Option ℕ) → IfSome packets IsLimit → IfSome turns IsLimit → AreLimits (record { packets = packets; turns = turns })
limits-are packets turns few_packets few_turns = record { packets = above packets few_packets; turns = few turns few_turns }

-- served by files of these names, or their fault told
abbrev pub ServesOrTells : Names → Limits → Verbosity → World → World → Status → Type 0
ServesOrTells names limits verbosity old new answer = ServesByFiles names limits verbosity old new answer ⊎ RefusesFiles names old new answer

pub asked-serve : (conf access : List ℕ) (packets turns : Option ℕ) (verbose : Bool) (names : Names) (verbosity : Verbosity) (old new : World) (answer : Status)
    → names.conf ≡ conf → names.access ≡ access → verbosity ≡ serving_verbosity verbose
    → ServesOrTells names (record { packets = packets; turns = turns }) verbosity old new answer
    → Runs (command.Serve conf access packets turns verbose) old new answer
asked-serve conf access packets turns verbose names verbosity old new answer of_conf of_access told came =
    let limits : Limits = record { packets = packets; turns = turns } in
    let one : ServesOrTells (record { conf = conf; access = names.access }) limits verbosity old new answer =
    subst (λ (c : List ℕ). ServesOrTells (record { conf = c; access = names.access }) limits verbosity old new answer) of_conf came in
    let two : ServesOrTells (record { conf = conf; access = access }) limits verbosity old new answer =
    subst (λ (a : List ℕ). ServesOrTells (record { conf = conf; access = a }) limits verbosity old new answer) of_access one in
    subst (λ (v : Verbosity). ServesOrTells (record { conf = conf; access = access }) limits v old new answer) told two

-- both files were read and served by
pub served : (names : Names) (limits : Limits) (verbosity : Verbosity) (input : SourceView) (old new : FilesView) (before after : Outside) (answer : Status)
    (task : Task) (conf : Conf) (stanzas : List Stanza) → ReadsFiles names conf stanzas old new → task.policy.conf.now ≡ conf → task.policy.access.now ≡ stanzas
    → task.limits ≡ limits → task.verbosity ≡ verbosity → Serves task before after answer
    → ServesByFiles names limits verbosity (served_in input old before) (served_in input new after) answer
served names limits verbosity input old new before after answer task conf stanzas reads of_conf of_access limited told serves = record {
  task = task;
  limited = limited;
  told = told;
  files = subst (λ (c : Conf). ReadsFiles names c task.policy.access.now old new) (sym of_conf)
      (subst (λ (s : List Stanza). ReadsFiles names conf s old new) (sym of_access) reads);
  input = refl;
  serves = serves;
}
