use Rattle.std.proofs.Common.{◌+◌, ◌<◌, sym, ap, ◌∙◌, arith}
use Rattle.record.specs.Names.{name_of}
use Rattle.disk.specs.Disks.{Blocks}
use Rattle.opened.specs.Opened.{held_at}
use Rattle.opened.proofs.Kept.{place_found}
use Rattle.opened.proofs.find_record.Goals as goal

pub held-requires : goal.held-requires
held-requires g c =
    let b : c.in_ok-i.i < 0 + 64 =
    (place_found (g.D.Disk.meaning.block c.args.disk.now) (name_of c.args.name.now) c.in_ok-i.i (sym c.find.ensures ∙ c.in_ok-i.was)).below in
    omega arith

pub returns : goal.returns
returns g c =
    let f : Blocks = g.D.Disk.meaning.block c.args.disk.now in
    c.held.ensures ∙ ap (held_at f) (sym c.in_ok-i.was ∙ c.find.ensures)
