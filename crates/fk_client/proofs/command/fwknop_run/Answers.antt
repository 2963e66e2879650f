use Rattle.fk_client.specs.Outside.{outside_by}
use Rattle.fk_client.proofs.Counting.{client-counts}
use Rattle.fk_client.proofs.Ended.{client-ends, client-missing, client-usage, client-wrong}
use Rattle.fk_client.proofs.command.fwknop_run.Goals as goal

pub returns : goal.returns
returns g c =
    let at = outside_by g.F.Files g.N.Entropy g.L.Link g.K.Sink in
    let old = at c.args.files.now c.args.entropy.now c.args.link.now c.args.out.now in
    let new = at c.run_words.new.files c.run_words.new.entropy c.run_words.new.link c.run_words.new.out in
    let runs = c.run_words.ensures in
    let counts = client-counts c.args.words.now c.args.moment old new c.run_words.result runs in record {
      runs = runs;
      usage = client-usage c.args.words.now c.args.moment old new c.run_words.result runs;
      missing = client-missing c.args.words.now c.args.moment old new c.run_words.result runs (c.client_words_ask_for_one_packet.ensures c.args.words.now);
      config = client-wrong c.args.words.now c.args.moment old new c.run_words.result runs (c.client_words_ask_for_one_packet.ensures c.args.words.now);
      counts = counts;
      complete = client-ends c.args.words.now c.args.moment old new c.run_words.result runs counts (c.client_words_ask_for_one_packet.ensures c.args.words.now);
    }
