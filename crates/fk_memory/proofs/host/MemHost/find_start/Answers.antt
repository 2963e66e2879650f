use Rattle.std.proofs.Common.{◌≡◌, ap, ◌∙◌, sym, slice_get, rules, tests}
use Rattle.std.proofs.lemmas.Iterator.{YieldsList-from_slice}
use Rattle.std.proofs.lemmas.Iterator.Adapters.{option_map_id}
use Rattle.std.proofs.lemmas.Iterator.Consumers.{nth_from_yields_List, YieldsList-from_filter_map, YieldsList-at}
use Rattle.fk_memory.specs.Host.{HostState}
use Rattle.fk_memory.specs.Starts.{start_of, starts_of}
use Rattle.fk_memory.proofs.host.MemHost.find_start.Goals as goal

pub returns : goal.returns
returns c =
    let told : c.nth.result ≡ slice_get (starts_of c.self.inside.trace.items) c.args.at =
    sym (option_map_id c.nth.result) ∙ nth_from_yields_List c.nth.result _ c.args.at c.nth.ensures.ran
    (YieldsList-from_filter_map _ start_of (YieldsList-at c.filter_map.ensures.source (YieldsList-from_slice c.self.inside.trace.items (c.iter.ensures.rest ∙ c.deref.ensures.value))) c.filter_map.ensures.closure (λ x r q k. search (rules, tests))) in
    told ∙ ap (λ (host : HostState). slice_get (starts_of host.trace) c.args.at) c.self.view_is
