use Rattle.std.proofs.Common.{◌≡◌, ℕ, Some, sym, refl, ap, ◌∙◌}
use Rattle.std.specs.Result.{result_ok}
use Rattle.record.specs.Names.{name_of}
use Rattle.record.specs.declared.record.Record.{Record}
use Rattle.disk.specs.Disks.{Blocks}
use Rattle.opened.specs.Opened.{record_of}
use Rattle.store.specs.Leases.{Table, unused}
use Rattle.store.specs.Stores.{get_answer, get_leases}
use Rattle.store.proofs.Tables.{record-held, sound-get, unused-below}
use Rattle.store.proofs.store.Store.begin_get.Goals as goal

pub returns : goal.returns
returns g c =
    let f : Blocks = g.D.Disk.meaning.block c.args.self.now.disk in
    let ls : Table = c.args.self.now.leases in
    let r : Record = c.in_ok-r.r in
    let t : ℕ = c.in_ok-t.t in
    let er : Some r ≡ record_of f (name_of c.args.name.now) = sym (ap result_ok c.in_ok-r.was) ∙ sym c.ok_or.ensures.ok_part ∙ c.find_record.ensures in
    let et : Some t ≡ unused ls = sym (ap result_ok c.in_ok-t.was) ∙ sym c.ok_or-2.ensures.ok_part ∙ c.unused.ensures.place in
    let h = record-held f (name_of c.args.name.now) r (sym er) in
    record {
      answer = λ i. get_answer (er i) (et i);
      disk = refl;
      leases = λ i. get_leases ls (er i) (et i);
      sound = λ ok. sound-get f ls t h.pair r ok (unused-below ls t et) h.below h.holds;
    }
