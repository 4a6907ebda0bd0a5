-- A refused command changes nothing; a new connection has nothing of the one before. Assumes nothing.
use Rattle.std.proofs.Common.{◌≡◌, false, cond, not, ◌&&◌, refl, ap, ◌∙◌, append-nil}
use Rattle.std.proofs.lemmas.Bool.{both_ways, and_parts, not-true}
use Rattle.model.specs.Client.{obey_unless}
use Rattle.model.specs.Server.{is_empty}
use Rattle.model.specs.World.{User, Turn, ArriveThere, ArriveHere, CutHere, CutThere, Connect, Time, by_client, can_connect, connected, after}
use Rattle.model.specs.Promises.{RefusedChangesNothing, NothingOfBefore}

module _ {S E : Type 0} where
  pub refused-changes-nothing : RefusedChangesNothing S E
  unfolding after
  refused-changes-nothing r p e vs k why h =
      let w = after r p e vs in
      ap (λ o. by_client (obey_unless r k w.client o) w.back w) h ∙ (λ i. record { connection = w.connection; client = w.client; server = w.server; there = append-nil w.there i; back = w.back })

  pub nothing-of-before : NothingOfBefore S E
  unfolding after
  nothing-of-before r p e vs (User k) h = absurd (both_ways false refl h)
  nothing-of-before r p e vs (Turn t) h = absurd (both_ways false refl h)
  nothing-of-before r p e vs ArriveThere h = absurd (both_ways false refl h)
  nothing-of-before r p e vs ArriveHere h = absurd (both_ways false refl h)
  nothing-of-before r p e vs CutHere h = absurd (both_ways false refl h)
  nothing-of-before r p e vs CutThere h = absurd (both_ways false refl h)
  nothing-of-before r p e vs Connect h =
      let w = after r p e vs in
      let (a, b) = and_parts (not w.client.up) (not w.server.up && is_empty w.server) h in
      let (c, d) = and_parts (not w.server.up) (is_empty w.server) b in
      let now : cond (can_connect w) (connected w) w ≡ connected w = ap (λ t. cond t (connected w) w) h in
      (d, not-true w.client.up a, not-true w.server.up c, ap (λ x. x.server.channels) now, ap (λ x. x.client.channels) now, ap (λ x. x.there) now, ap (λ x. x.back) now, ap (λ x. x.server.user) now)
  nothing-of-before r p e vs Time h = absurd (both_ways false refl h)
