-- The open stations, found one after the other.
use Rattle.std.proofs.Common.{◌≡◌, ℕ, ◌<◌, ◌≤◌, List, length, take, ◌∙◌}
use Rattle.std.proofs.Common.{arith, length-take-le, get_or-take}
use Rattle.model.proofs.Counting.{some_yes}
use Rattle.model.proofs.Tests.{is_eq}
use Rattle.quiet.specs.Efficient.{of}
use Rattle.quiet.specs.Seating.{Opened}

-- those among the first j stations are the first k of the list
pub record OpenSoFar (asks : List ℕ) (c room : ℕ) (opened : List ℕ) (k j : ℕ) : Type 0 where
  pub within : j ≤ length asks
  pub long : length opened ≡ room
  pub few : k ≤ j
  pub stations : (q : ℕ) → q < k → (of opened q < j) × (of asks (of opened q) < c)
  pub all : (l : ℕ) → l < j → of asks l < c → (q : ℕ) × (q < k) × (of opened q ≡ l)

pub open_end :
    {asks : List ℕ} {c room : ℕ} {opened : List ℕ} {k j : ℕ} → OpenSoFar asks c room opened k j → length asks ≤ room
    → length asks ≤ j → Opened asks c (take k opened) × (k ≤ length opened)
open_end {asks} {c} {room} {opened} {k} {j} h r l =
    let fits : k ≤ length opened = omega (arith, h.few, h.within, h.long) in
    let n : length (take k opened) ≡ k = length-take-le k opened fits in (
      record {
        stations = λ q lq. let lk : q < k = omega arith in
            rw (get_or-take k opened q 0 lk) (omega (arith, (h.stations q lk).0, h.within), (h.stations q lk).1);
        all = λ i li ask. let (q, lq, e) = h.all i (omega arith) ask in
            some_yes _ _ q (omega arith) (is_eq _ _ (get_or-take k opened q 0 lq ∙ e));
      },
      fits,
    )
