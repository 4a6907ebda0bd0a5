use Rattle.record.specs.Names.{name_of}
use Rattle.opened.proofs.Kept.{goes}
use Rattle.std.proofs.Common.{sym, ◌∙◌}
use Rattle.opened.proofs.find_target.Goals as goal

pub held-requires : goal.held-requires
held-requires g c =
    (goes (g.D.Disk.meaning.block c.args.disk.now) (name_of c.args.name.now) c.in_ok-i.i (sym c.find_pair.ensures ∙ c.in_ok-i.was)).below

pub other_slot-requires : goal.other_slot-requires
other_slot-requires g c =
    (goes (g.D.Disk.meaning.block c.args.disk.now) (name_of c.args.name.now) c.in_ok-i.i (sym c.find_pair.ensures ∙ c.in_ok-i.was)).below
