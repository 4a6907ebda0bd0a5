use Rattle.std.proofs.Common.{◌≡◌, ℕ, Bool, List, Some, Option, sym, refl, ap, ◌∙◌, subst}
use Rattle.disk.specs.Disks.{Blocks}
use Rattle.store.specs.Leases.{Table, lease}
use Rattle.store.specs.Stores.{put_next, wrote_disk, wrote_answer, WroteNext}
use Rattle.store.specs.declared.lease.Lease.{Lease}
use Rattle.store.specs.declared.lease.Lease.TheVariants.{Put}
use Rattle.store.proofs.Puts.{next-kept}
use Rattle.store.proofs.store.Store.write.Goals as goal

pub returns : goal.returns
returns g c =
    let f : Blocks = g.D.Disk.meaning.block c.args.self.now.disk in
    let new : Blocks = g.D.Disk.meaning.block c.write_next.new.disk in
    let up : Bool = g.D.Disk.meaning.up c.write_next.new.disk in
    let ls : Table = c.args.self.now.leases in
    let x : List ℕ = c.args.bytes.now in
    let e : Some (Put c.in-Some-Put.blocks) ≡ lease ls c.args.t = ap (λ (l : Lease). Some l) (sym c.in-Some-Put.field-0-is) ∙ c.in-Some-Put.ensures in
    record {
      disk = c.write_next.ensures.disk ∙ ap (λ (l : Option Lease). wrote_disk g.D.Disk.meaning c.args.self.now.disk (put_next l c.args.from) x) e;
      leases = refl;
      answer = c.write_next.ensures.answer ∙ ap (λ (l : Option Lease). wrote_answer (put_next l c.args.from) up) e;
      blocks = subst (λ (l : Option Lease). WroteNext f (put_next l c.args.from) x up new) e c.write_next.ensures.blocks;
      kept = next-kept f new ls c.args.t c.args.from c.in-Some-Put.blocks x up (sym e) c.write_next.ensures.blocks;
    }
