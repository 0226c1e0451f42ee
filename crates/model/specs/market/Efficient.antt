-- Document 000's efficient mechanism: all candidacies in one order, taken one after the other. Document 02, request 4.
use Rattle.std.specs.Prelude.{ℕ, zero, suc, Bool, true, false, cond, List, [], ◌∷◌}
use Rattle.model.specs.Counting.{◌<?◌, ◌=?◌}
use Rattle.model.specs.market.Market.{Screened}
use Rattle.model.specs.market.Mechanism.{Decision, served}
use Rattle.model.specs.market.Stable.{sooner}

-- a guest as a candidate at one station
pub record Candidacy : Type 0 where
  pub guest : ℕ
  pub station : ℕ

abbrev pub candidacy : (guest station : ℕ) → Candidacy
candidacy guest station = record { guest = guest; station = station }

-- 'All candidacies of all stations stand by falling total, then lower ticket, then lower station.'
-- x goes to its place in a list that stands so, where it is a candidacy
unfoldable pub insert : Screened → Candidacy → List Candidacy → List Candidacy
insert S x [] = x ∷ []
insert S x (y ∷ l) = cond (sooner S y.guest y.station x.guest x.station) (y ∷ insert S x l) (x ∷ y ∷ l)

unfoldable pub insert_where : Screened → Bool → Candidacy → List Candidacy → List Candidacy
insert_where S true x l = insert S x l
insert_where S false x l = l

-- guest i at each station below m; each guest below n at each station; all
unfoldable pub insert_guest : Screened → (i m : ℕ) → List Candidacy → List Candidacy
insert_guest S i zero l = l
insert_guest S i (suc j) l = insert_where S (S.candidate i j) (candidacy i j) (insert_guest S i j l)

unfoldable pub candidacies_below : Screened → (n : ℕ) → List Candidacy
candidacies_below S zero = []
candidacies_below S (suc i) = insert_guest S i S.station_count (candidacies_below S i)

unfoldable pub candidacies : Screened → List Candidacy
candidacies S = candidacies_below S S.guest_count

-- f, but v at k
unfoldable pub put : (ℕ → ℕ) → (k v : ℕ) → ℕ → ℕ
put f k v i = cond (i =? k) v (f i)

-- 'If the station has a bay left, the guest is seated there.'
unfoldable pub bay_left : Screened → Decision → ℕ → Bool
bay_left S D j = served S D j <? S.bays j

unfoldable pub assign : Decision → Candidacy → Decision
assign D x = record { assigned = put D.assigned x.guest (suc x.station); critical = D.critical }

-- 'If it is full, the first such unseated guest's total becomes its floor.' 0 is none so far: totals fall, so that a
-- first total of 0 has none but 0 after it
unfoldable pub first_of : (critical total : ℕ) → ℕ
first_of zero total = total
first_of (suc c) total = suc c

unfoldable pub turn_away : Screened → Decision → Candidacy → Decision
turn_away S D x = record {
  assigned = D.assigned;
  critical = put D.critical x.station (first_of (D.critical x.station) (S.total x.guest x.station));
}

-- 'Take them in order. A seated guest's later ones are skipped.'
unfoldable pub take_one : Screened → Decision → Candidacy → Decision
take_one S D x = cond (D.assigned x.guest =? 0)
    (cond (bay_left S D x.station) (assign D x) (turn_away S D x))
    D

unfoldable pub take_all : Screened → Decision → List Candidacy → Decision
take_all S D [] = D
take_all S D (x ∷ l) = take_all S (take_one S D x) l

unfoldable pub nobody : Decision
nobody = record { assigned = λ i. 0; critical = λ j. 0 }

unfoldable pub efficient : Screened → Decision
efficient S = take_all S nobody (candidacies S)
