-- Which clients of the model a value may stand for, and which messages it still owes. Assumes nothing.
use Rattle.std.specs.Prelude.{◌≡◌, ℕ, ◌+◌, ◌<◌, Bool, true, false, cond, ◌||◌, List, [], ◌∷◌, ◌++◌, map, length, Some, None, Option, ◌≢◌, nat_le, slice_index_or}
use Rattle.std.specs.Option as option
use Rattle.model.specs.Keyed.{numbers, is_in, above, gather, each}
use Rattle.model.specs.Messages.{ToServer, Rules, real}
use Rattle.model.specs.Client.{Phase, Asked, Running, ClientChannel, Client, number_of, is_held, requests, requests_of, flushed}
use Rattle.client_channel.specs.Kept.{Kept}
use Rattle.client.specs.View.{View}

abbrev pub phase_of : Bool → Phase
phase_of true = Running
phase_of false = Asked

-- a channel with some past: the input that went and the output that was taken
abbrev pub whole : Kept → (command : ℕ) → (went taken : List ℕ) → ClientChannel
whole k command went taken =
    record {
      number = k.number;
      command = command;
      phase = phase_of k.running;
      input = went ++ k.waiting;
      sent = length went;
      may = length went + k.credit;
      eof = k.eof;
      said = k.said;
      got = taken ++ k.unseen;
      taken = length taken;
      exit = k.exit;
    }

-- the real limits; which users are accepted is not the client's matter
abbrev pub limits : Rules
limits = real (λ _ _ _. false) (λ _ _. false)

-- what the model sends by itself of such a channel, which does not depend on the past
abbrev pub bare : Kept → ClientChannel
bare k = whole k 0 [] []

-- the channels held are those of the model that are held, in the same order, each with some past; no number stands twice
pub data Stand : List Kept → List ClientChannel → Type 0 where
  none : Stand [] []
  past : {ks : List Kept} {hs : List ClientChannel} (x : ClientChannel) → is_held x ≡ false → is_in x.number (numbers number_of hs) ≡ false → Stand ks hs → Stand ks (x ∷ hs)
  held : {ks : List Kept} {hs : List ClientChannel} (k : Kept) (command : ℕ) (went taken : List ℕ) → is_in k.number (numbers number_of hs) ≡ false → Stand ks hs → Stand (k ∷ ks) (whole k command went taken ∷ hs)

-- all but the one at that place have nothing to send
unfoldable pub QuietBut : Option ℕ → List Kept → Type 0
QuietBut turn ks = (i : ℕ) (d : Kept) → i < length ks → (turn ≢ Some i) → requests limits (bare (slice_index_or ks i d)) ≡ []

-- The model's client is the value's after what is owed was sent. Channels that were flushed have nothing left to send; a value that is down owes nothing.
pub record StandsFor (v : View) (w : Client) : Type 0 where
  pub all : List ClientChannel
  pub stand : Stand v.kepts all
  pub channels : w.channels ≡ cond v.up (each flushed all) all
  pub accepted : w.accepted ≡ v.accepted
  pub up : w.up ≡ v.up
  pub used : (n : ℕ) → v.is_used n ≡ is_in n (numbers number_of all)
  pub least : (n : ℕ) → above n (numbers number_of all) ≡ nat_le v.next n
  pub quiet : v.up ≡ true → QuietBut v.turn v.kepts
  pub down : v.up ≡ false → (v.pending ≡ []) × (v.turn ≡ None)

-- the messages that are still to be handed out: what the command itself sends, then channel by channel what goes by itself
unfoldable pub owed_by : View → List ToServer
owed_by v = cond v.up (v.pending ++ gather (requests_of limits) (map bare v.kepts)) []

abbrev pub is_some : List ToServer → Bool
is_some [] = false
is_some (m ∷ ms) = true

-- whether messages may still be owed: no call but next_message is taken
abbrev pub busy : View → Bool
busy v = is_some v.pending || option.is_some v.turn
