use Rattle.std.proofs.Common.{◌≡◌, ℕ, set, Some, Option, sym, refl, ap, ◌∙◌, subst}
use Rattle.blocks.specs.declared.Set.{Set}
use Rattle.disk.specs.Disks.{Blocks}
use Rattle.store.specs.Leases.{Table, Sound, put_set, with_lease}
use Rattle.store.specs.declared.lease.Lease.TheVariants.{Put}
use Rattle.store.proofs.Tables.{short-of, enough, sound-put, unused-below}
use Rattle.store.proofs.store.Store.begin_put.Goals as goal

pub returns-in_err-blocks : goal.returns-in_err-blocks
returns-in_err-blocks g c =
    let f : Blocks = g.D.Disk.meaning.block c.args.self.now.disk in
    let ls : Table = c.args.self.now.leases in
    let e = short-of f ls c.used.result c.used.ensures c.args.many (sym c.lowest_free.ensures ∙ c.in_err-blocks.was) in
    record {
      place = c.from_residual-in_err-blocks.ensures ∙ e;
      disk = refl;
      leases = ap (λ (o : Option ℕ). with_lease ls o (Some (Put (put_set f ls c.args.many)))) (sym c.from_residual-in_err-blocks.ensures);
      sound = λ ok. ok;
    }

pub returns : goal.returns
returns g c =
    let f : Blocks = g.D.Disk.meaning.block c.args.self.now.disk in
    let ls : Table = c.args.self.now.leases in
    let s : Set = c.in_ok-blocks.blocks in
    let t : ℕ = c.in_ok-t.t in
    let w = enough f ls c.used.result c.used.ensures c.args.many t s (sym c.lowest_free.ensures ∙ c.in_ok-blocks.was) (sym c.in_ok-t.was ∙ c.unused.ensures.place) in
    let e : set ls t (Some (Put s)) ≡ set ls t (Some (Put (put_set f ls c.args.many))) = ap (λ (x : Set). set ls t (Some (Put x))) w.1 in
    record {
      place = w.0;
      disk = refl;
      leases = e;
      sound = λ ok. subst (Sound f) (sym e) (sound-put f ls t c.args.many ok (unused-below ls t (sym c.in_ok-t.was ∙ c.unused.ensures.place)));
    }
