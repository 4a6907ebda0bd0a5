use Rattle.std.proofs.Common.{◌≡◌, ℕ, Bool, true, false, List, is_ok, Some, Err, Option, sym, refl, ap, ◌∙◌, subst, arith, rules}
use Rattle.std.proofs.lemmas.Bool.{false≢true}
use Rattle.std.specs.Result.{result_ok}
use Rattle.record.specs.Names.{name_of}
use Rattle.record.specs.Records.{encode}
use Rattle.disk.specs.Disks.{Blocks, Wrote}
use Rattle.store.specs.Leases.{Table, lease, Sound}
use Rattle.store.specs.Stores.{prepared, commit_answer, commit_disk, commit_leases, Outcome}
use Rattle.store.specs.declared.store.Prepared.{Prepared}
use Rattle.store.specs.declared.store.Refused.TheVariants.{Crashed}
use Rattle.store.proofs.Puts.{ready, outcome, commit-sound, commit-data, whole-entry}
use Rattle.store.proofs.store.Store.commit.Goals as goal

pub returns-in_err-write : goal.returns-in_err-write
returns-in_err-write g c =
    let f : Blocks = g.D.Disk.meaning.block c.args.self.now.disk in
    let new : Blocks = g.D.Disk.meaning.block c.write.new.self in
    let ls : Table = c.args.self.now.leases in
    let t : ℕ = c.args.t in
    let n : List ℕ = name_of c.args.name.now in
    let p : Prepared = c.in_ok-p.p in
    let e : Some p ≡ prepared f (lease ls t) c.args.name.now c.args.size = sym (ap result_ok c.in_ok-p.was) ∙ sym c.ok_or.ensures.ok_part ∙ c.prepare.ensures in
    let r = ready f (lease ls t) c.args.name.now c.args.size p (sym e) in
    let up : false ≡ g.D.Disk.meaning.up c.write.new.self = sym (ap is_ok (c.in_err-write.was)) ∙ c.write.ensures.answer in
    let w : Wrote f p.slot (encode p.entry) (g.D.Disk.meaning.up c.write.new.self) new =
    subst (λ (x : List ℕ). Wrote f p.slot x (g.D.Disk.meaning.up c.write.new.self) new) c.encode.ensures.bytes c.write.ensures.blocks in
    let whole = whole-entry f n c.args.size (lease ls t) p r c.encode.ensures.name c.encode.ensures.blocks (omega arith) in
    let q : c.from_residual-in_err-write.result ≡ Err Crashed = search rules in
    record {
      disk = c.write.ensures.after ∙ ap (λ (x : List ℕ). g.D.Disk.meaning.wrote c.args.self.now.disk p.slot x) c.encode.ensures.bytes
          ∙ ap (λ (o : Option Prepared). commit_disk g.D.Disk.meaning c.args.self.now.disk o) e;
      leases = λ i. commit_leases ls t (e i) (up i);
      answer = q ∙ (λ i. commit_answer (e i) (up i));
      outcome = subst (λ (o : Option Prepared). Outcome f n o (g.D.Disk.meaning.up c.write.new.self) new) e (outcome f new n c.args.size (lease ls t) p r (g.D.Disk.meaning.up c.write.new.self) w whole);
      sound = λ ok z. absurd (false≢true (ap is_ok (sym q) ∙ z));
      rest = commit-data f new n c.args.size (lease ls t) p r (g.D.Disk.meaning.up c.write.new.self) w;
    }

pub returns : goal.returns
returns g c =
    let f : Blocks = g.D.Disk.meaning.block c.args.self.now.disk in
    let ls : Table = c.args.self.now.leases in
    let t : ℕ = c.args.t in
    let n : List ℕ = name_of c.args.name.now in
    let p : Prepared = c.in_ok-p.p in
    let e : Some p ≡ prepared f (lease ls t) c.args.name.now c.args.size = sym (ap result_ok c.in_ok-p.was) ∙ sym c.ok_or.ensures.ok_part ∙ c.prepare.ensures in
    let r = ready f (lease ls t) c.args.name.now c.args.size p (sym e) in
    let d = c.release.new.self.disk in
    let new : Blocks = g.D.Disk.meaning.block d in
    let ed : c.write.new.self ≡ d = sym c.release.ensures.disk in
    let up : true ≡ g.D.Disk.meaning.up d = sym (ap is_ok c.in_ok-write.was) ∙ c.write.ensures.answer ∙ ap g.D.Disk.meaning.up ed in
    let w1 : Wrote f p.slot (encode p.entry) (g.D.Disk.meaning.up c.write.new.self) (g.D.Disk.meaning.block c.write.new.self) =
    subst (λ (x : List ℕ). Wrote f p.slot x (g.D.Disk.meaning.up c.write.new.self) (g.D.Disk.meaning.block c.write.new.self)) c.encode.ensures.bytes c.write.ensures.blocks in
    let w : Wrote f p.slot (encode p.entry) (g.D.Disk.meaning.up d) new = subst (λ x. Wrote f p.slot (encode p.entry) (g.D.Disk.meaning.up x) (g.D.Disk.meaning.block x)) ed w1 in
    let whole = whole-entry f n c.args.size (lease ls t) p r c.encode.ensures.name c.encode.ensures.blocks (omega arith) in
    record {
      disk = c.release.ensures.disk ∙ c.write.ensures.after ∙ ap (λ (x : List ℕ). g.D.Disk.meaning.wrote c.args.self.now.disk p.slot x) c.encode.ensures.bytes
          ∙ ap (λ (o : Option Prepared). commit_disk g.D.Disk.meaning c.args.self.now.disk o) e;
      leases = c.release.ensures.leases ∙ (λ i. commit_leases ls t (e i) (up i));
      answer = λ i. commit_answer (e i) (up i);
      outcome = subst (λ (o : Option Prepared). Outcome f n o (g.D.Disk.meaning.up d) new) e (outcome f new n c.args.size (lease ls t) p r (g.D.Disk.meaning.up d) w whole);
      sound = λ ok z.
          subst (Sound new) (sym c.release.ensures.leases)
          (commit-sound f new n c.args.size (lease ls t) p r ls t ok refl (subst (λ (v : Bool). Wrote f p.slot (encode p.entry) v new) (sym up) w) whole);
      rest = commit-data f new n c.args.size (lease ls t) p r (g.D.Disk.meaning.up d) w;
    }
