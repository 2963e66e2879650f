use Rattle.fk_tool.specs.Outside.{outside_by}
use Rattle.fk_tool.proofs.Counting.{tool-counts}
use Rattle.fk_tool.proofs.Ended.{tool-config, tool-ends, tool-missing, tool-usage}
use Rattle.fk_tool.proofs.command.fko_run.Goals as goal

pub returns : goal.returns
returns g c =
    let at = outside_by g.F.Files g.N.Entropy g.D.Disk g.I.Source g.K.Sink in
    let old = at c.args.files.now c.args.entropy.now c.args.disk.now c.args.input.now c.args.out.now in
    let new = at c.run_words.new.files c.run_words.new.entropy c.run_words.new.disk c.run_words.new.input c.run_words.new.out in
    let words = c.args.words.now in
    let answer = c.run_words.result in
    let runs = c.run_words.ensures in
    let counts = tool-counts words old new answer runs in
    let one = c.tool_words_ask_for_one_command.ensures in
    record {
      runs = runs;
      usage = tool-usage words old new answer runs;
      missing = tool-missing words old new answer runs one;
      config = λ names calm. tool-config words old new answer runs one names calm;
      counts = counts;
      complete = tool-ends words old new answer runs counts c.no_area_holds_two_ledgers.ensures.damaged one;
    }
