use Rattle.std.proofs.Common.{◌≡◌, length, take, drop, false, ap, ◌∙◌, subst}
use Rattle.fk_host.specs.Disk.{area_of}
use Rattle.fk_memory.specs.Area.{areas_after}
use Rattle.fk_memory.specs.Host.{HostState}
use Rattle.fk_memory.specs.HostRecord.{texts}
use Rattle.fk_memory.proofs.DiskCalls.{reads_kept}
use Rattle.fk_memory.proofs.host.MemHost.copy_out.Goals as goal

pub returns-clause-bytes : goal.returns-clause-bytes
returns-clause-bytes c =
    let present = reads_kept c.args.self.now c.make.new.self c.fails_next-failed.result (texts c.self.inside.present) c.in_ok-make.ensures.result c.in_ok-make.ensures.state
    (subst (λ (h : HostState). h.is_short ≡ false → texts c.self.inside.present ≡ areas_after h.first h.calls) c.self.view_is c.self.invariant.0) in
    c.copy_front.ensures.bytes ∙ ap (λ text. take (length c.args.buf.now) (drop c.args.at text)) (c.text.ensures ∙ ap (area_of c.args.area) present)
