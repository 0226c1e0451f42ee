-- Laws of writing into an output: one text after another, and a list of texts.
use Prim.Native.Nat.{ℕ, ◌+◌, ◌<◌, ◌≤◌}
use mathlib.Core.List.{List, ◌++◌}
use mathlib.Core.Path.{◌≡◌, refl, ◌∙◌}
use lib.ListN.{length}
use Rattle.model.specs.Counting.{joined}
use Rattle.sheet.specs.Put.{Put}
use Rattle.sheet.specs.declared.putting.Output.{Output}
use Rattle.sheet.proofs.Wrote.{wrote_then, room_for_second}
use Rattle.sheet.proofs.Wrote.{Listing, listing_none, listing_more, listing_end, room_for_next}

module _ {a b : Output} {t : List ℕ} (p : Put a t b) where
  pub put_then : {c : Output} {u : List ℕ} → Put b u c → Put a (t ++ u) c
  put_then q = record { wrote = wrote_then p.wrote q.wrote; same = q.same ∙ p.same }

  -- the same text by another name
  pub put_as : {u : List ℕ} → t ≡ u → Put a u b
  put_as e = rw (← e) p

  -- where both have room, the second has
  pub room_then : (u : List ℕ) → a.at + length (t ++ u) ≤ length a.out.now → b.at + length u ≤ length b.out.now
  room_then u h = room_for_second u p.wrote h

-- the first k of n texts
pub record Listed (n : ℕ) (f : ℕ → List ℕ) (from : Output) (k : ℕ) (to : Output) : Type 0 where
  pub listing : Listing n f from.out.now from.at k to.out.now to.at
  pub same : to.out.ghost_name ≡ from.out.ghost_name

module _ {n : ℕ} {f : ℕ → List ℕ} {a : Output} where
  pub listed_none : Listed n f a 0 a
  listed_none = record { listing = listing_none; same = refl }

  module _ {b : Output} {k : ℕ} (l : Listed n f a k b) where
    pub listed_more : {c : Output} → k < n → Put b (f k) c → Listed n f a (k + 1) c
    listed_more h p = record { listing = listing_more l.listing h p.wrote; same = p.same ∙ l.same }

    pub listed_end : n ≤ k → Put a (joined n f) b
    listed_end h = record { wrote = listing_end l.listing h; same = l.same }

    pub room_next : k < n → a.at + length (joined n f) ≤ length a.out.now → b.at + length (f k) ≤ length b.out.now
    room_next h room = room_for_next f l.listing h room
