-- What is promised of put and get, and of files as the environment of programs. Assumes nothing.
use Rattle.std.specs.Prelude.{◌≡◌, ℕ, Bool, ◌⊎◌, List, [], ◌++◌, Some}
use Rattle.model.specs.Keyed.{find}
use Rattle.model.specs.Messages.{Rules, Does}
use Rattle.model.specs.World
use Rattle.model.specs.Files
use Rattle.model.specs.Files.{Limits, Put, fresh, same, put_number, file_of}
use Rattle.model.specs.Rows.{rows, beside}
use Rattle.model.specs.Put.{Storing, Digest, Body, Over, Well, storage}

-- Whatever happens between client and server, the files are what some list of their own events leads to; so what is promised of files holds of them.
abbrev pub StorageIsFiles : Type 0
StorageIsFiles =
    (r : Rules) (l : Limits) (digest : List ℕ → List ℕ) (table : ℕ → List Does) (second : ℕ → Bool) (d : ℕ → List ℕ) (vs : List World.Event) →
    (fs : List Files.Event) × ((World.after r (beside (rows table) (storage l digest) second) (fresh d) vs).server.env ≡ Files.after l d fs)

-- The digest of a put has come whole and fits all bytes that the put was given, and with this turn its name has exactly these.
pub record PutWhole (l : Limits) (digest : List ℕ → List ℕ) (s : Files.Files) (x : Storing) (bs : List ℕ) (eof : Bool) : Type 0 where
  pub put : ℕ
  pub at : x.at ≡ Digest put
  pub under : Put
  pub found : find put_number put s.puts ≡ Some under
  pub fits : digest under.given ≡ x.have ++ bs
  pub file : file_of under.name ((storage l digest).after s x bs eof) ≡ Some under.given

-- What comes to end well in a turn is a put that is whole, or a get that has written all; or it had ended well before.
abbrev pub EndsWellIfWhole : Type 0
EndsWellIfWhole =
    (l : Limits) (digest : List ℕ → List ℕ) (d : ℕ → List ℕ) (fs : List Files.Event) (x : Storing) (bs : List ℕ) (eof : Bool) →
    ((storage l digest).next (Files.after l d fs) x bs eof).at ≡ Over Well → PutWhole l digest (Files.after l d fs) x bs eof ⊎ (((g : ℕ) × (x.at ≡ Body g [])) ⊎ (x.at ≡ Over Well))
