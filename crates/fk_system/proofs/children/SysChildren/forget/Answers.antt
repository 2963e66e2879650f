use Rattle.std.proofs.Common.{rules, not, ap, ◌==◌, ◌≡◌, ◌∙◌, List}
use Rattle.std.specs.List.{filter}
use Rattle.std.proofs.lemmas.Fn.{filter_same}
use Rattle.fk_trace.specs.Trace.{Child}
use Rattle.fk_host.specs.Disk.{Above}
use Rattle.fk_system.proofs.children.SysChildren.forget.Goals as goal

pub returns : goal.returns
returns g c =
    let filtered : c.retain.new.self.items ≡ filter (λ (child : Child). not (child.number == c.args.number)) c.self.inside.running.items =
    filter_same _ (λ (child : Child). not (child.number == c.args.number)) _ (λ x b f' k. search rules) _ _ c.retain.ensures.filtered in
    let of : List Child → Above = λ running. record { running = running; faults = c.self.inside.faults; last_child = c.self.inside.last } in
    ap of filtered ∙ ap (λ (above : Above). record above { running = filter (λ (child : Child). not (child.number == c.args.number)) above.running }) c.self.view_is
