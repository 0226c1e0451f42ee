-- A guest takes its seat: what is known of the lists holds on.
use Rattle.std.proofs.Common.{◌≡◌, ℕ, suc, ◌+◌, ◌<◌, ◌≤◌, true, List, length, set, sym, refl, ap, ◌∙◌, ap₂, ⊎_elim}
use Rattle.std.proofs.Common.{subst, add-one, arith, length-set, get_or-set_other, get_or-set_same}
use Rattle.model.specs.Counting.{◌<?◌, ◌≤?◌, only}
use Rattle.model.specs.market.Market.{Tables, Screened}
use Rattle.allocation.specs.Screens.{screened_at}
use Rattle.model.specs.market.Stable.{sooner}
use Rattle.model.specs.claims.Meaning.{WithinLimits}
use Rattle.model.proofs.Tests.{or_cases, lt_yes, eq_or_ne, is_lt, not_lt, is_le, not_le, only_yes, only_no}
use Rattle.model.proofs.Tests.{lt_or_le}
use Rattle.quiet.specs.Efficient.{of, IsLast, takes, best_taker, Seatable, Moved}
use Rattle.quiet.specs.Rounds.{BestTaker}
use Rattle.quiet.specs.declared.round.Round.{Round}
use Rattle.quiet.specs.Seating.{priority, Chain, At, Linked, Closed, Relinked, Slotted, Seating, seating}
use Rattle.quiet.specs.Seating.{bar_of, HeldIn, Waits, Sized, LastOf}
use Rattle.quiet.proofs.efficient.Order.{Put, put_set}
use Rattle.quiet.proofs.efficient.Holding.{holding_after, filled, replaced, Reseated, no_seat}
use Rattle.quiet.proofs.efficient.Holding.{one_holder_more, as_many_holders}
use Rattle.quiet.proofs.efficient.Moves.{taker, into_free_bay, in_place_of_last}
use Rattle.quiet.proofs.seats.Listing.{keys}
use Rattle.quiet.proofs.seats.Slots.{SlotPut, put_in, slot_put, slotted_after, last_holder}
use Rattle.quiet.proofs.seats.Chains.{chain_same, chain_more, relinked_others, relinked_elsewhere}
use Rattle.quiet.proofs.seats.Chains.{relinked_lengths, relinked_is, relinked_chain}

-- ---- bars

module _ (S : Screened) (held last : ℕ → ℕ) (j : ℕ) where
  pub bar_free : held j < S.bays j → bar_of S held last j ≡ 0
  unfolding bar_of
  bar_free l = only_no _ _ (not_le _ _ l)

  pub bar_full : S.bays j ≤ held j → bar_of S held last j ≡ suc (priority S (last j) j)
  unfolding bar_of
  bar_full l = only_yes _ _ (is_le _ _ l)

bar_same :
    (S : Screened) (held held' last last' : ℕ → ℕ) (l : ℕ) → held' l ≡ held l → last' l ≡ last l
    → bar_of S held last l ≡ bar_of S held' last' l
unfolding bar_of
bar_same S held held' last last' l e f = ap₂ (λ h y. only (S.bays l ≤? h) (suc (priority S y l))) (sym e) (sym f)

-- ---- guest x takes its seat at station j

pub station :
    (t : Tables) (w : WithinLimits t) {c : ℕ} {R : Seating} (h : HeldIn t c R) {x j : ℕ} → Waits t R.chosen x
    → best_taker (screened_at t c) (of R.held) (of R.lasts) x ≡ suc j → j < length t.asks
unfolding screened_at
station t w {c} h {x} v e = (taker (screened_at t c) (keys t c w) h.holding x v.0 v.1 e).0.station

module _ (round : Round) {R : Seating} {x j : ℕ} (b : BestTaker round R x j) where
  abbrev t : Tables
  t = round.market.now

  abbrev c : ℕ
  c = round.cut.0

  abbrev w : WithinLimits t
  w = round.priced.within

  abbrev h : HeldIn t c R
  h = b.held_in

  abbrev v : Waits t R.chosen x
  v = b.waits

  abbrev e : best_taker (screened_at t c) (of R.held) (of R.lasts) x ≡ suc j
  e = b.best

  abbrev here : j < length t.asks
  here = b.station

  guest : x < (screened_at t c).guest_count
  unfolding screened_at
  guest = v.0

  taking : Seatable (screened_at t c) (of R.chosen) x j
      × (takes (screened_at t c) (of R.held) (of R.lasts) x j ≡ true)
  taking = taker (screened_at t c) (keys t c w) h.holding x guest v.1 e

  in_list : x < length R.chosen
  in_list = omega (arith, h.sized.chosen_long, v.0)

  abbrev hold : ℕ
  hold = of R.held j

  -- x is in no chain
  not_x : (l k : ℕ) → l < length t.asks → k < of R.held l → h.slot l k ≡ x → ⊥
  unfolding screened_at
  not_x l k ll lk z = no_seat (of R.chosen) v.1 (h.slotted.holds l k ll lk).1 z

  -- a guest of another station's chain is in none of this one's slots
  elsewhere : (l k r : ℕ) → l < length t.asks → (l ≡ j → ⊥) → k < of R.held l → r < hold
      → h.slot l k ≡ h.slot j r → ⊥
  unfolding screened_at
  elsewhere l k r ll ne lk lr z =
      ne (let same : suc l ≡ suc j = sym (h.slotted.holds l k ll lk).1 ∙ ap (of R.chosen) z
      ∙ (h.slotted.holds j r here lr).1 in omega arith)

  -- ---- a free bay
  module _ (free : hold < of t.bays j) where
    abbrev chosen' : List ℕ
    chosen' = set R.chosen x (j + 1)

    abbrev held' : List ℕ
    held' = set R.held j (hold + 1)

    abbrev nexts' : List ℕ
    nexts' = set R.nexts x (of R.firsts j)

    abbrev firsts' : List ℕ
    firsts' = set R.firsts j (x + 1)

    abbrev slot' : ℕ → ℕ → ℕ
    slot' = put_in h.slot j hold x

    put : Put (of R.chosen) x (suc j) (of chosen')
    put = put_set R.chosen x (j + 1) in_list (add-one j)

    slot_is : SlotPut h.slot j hold x slot'
    slot_is = slot_put h.slot j hold x

    held_here : of held' j ≡ hold + 1
    held_here = get_or-set_same R.held j (hold + 1) 0 (omega (arith, h.sized.held_long, here))

    held_other : (l : ℕ) → (l ≡ j → ⊥) → of held' l ≡ of R.held l
    held_other l ne = get_or-set_other R.held j l _ 0 ne

    slotted_filled : Slotted (screened_at t c) (of chosen') (of held') slot'
    unfolding screened_at
    slotted_filled =
        slotted_after h.slotted (λ i l li o. (h.holding.candidates i l li o).0) (filled v.1 put) v.0 v.1
        put.placed slot_is
        (λ k lk _. put.kept _ (no_seat (of R.chosen) v.1 (h.slotted.holds j k here lk).1)
        ∙ (h.slotted.holds j k here lk).1)
        (λ k lk k_is. absurd (omega arith))
        (λ k lk. rw held_here (omega arith)) (rw held_here (omega arith))
        (λ k lk ne. let less : k < hold + 1 = rw held_here at lk in
        ⊎_elim (λ l. l) (λ (l : hold ≤ k). absurd (ne (omega arith))) (lt_or_le k hold))
        held_other

    next_kept : (g : ℕ) → (g ≡ x → ⊥) → of nexts' g ≡ of R.nexts g
    next_kept g ne = get_or-set_other R.nexts x g _ 0 ne

    chain_here : Chain (length t.amounts) (hold + 1) (slot' j) (suc x) nexts'
    chain_here = chain_more v.0 slot_is.placed (λ k lk. slot_is.kept j k (λ _ z. omega arith))
        (get_or-set_same R.nexts x _ 0 (omega (arith, h.sized.nexts_long, v.0)))
        (λ k lk. next_kept _ (not_x j k here lk)) (h.chains j here)

    first_here : of firsts' j ≡ suc x
    first_here = get_or-set_same R.firsts j (x + 1) 0 (omega (arith, h.sized.firsts_long, here)) ∙ add-one x

    sized_with :
        {lasts' befores' bars' : List ℕ} → length lasts' ≡ length R.lasts → length befores' ≡ length R.befores
        → length bars' ≡ length R.bars → Sized t (seating chosen' held' firsts' nexts' lasts' befores' bars')
    sized_with n_lasts n_befores n_bars = record {
      chosen_long = length-set R.chosen x _ ∙ h.sized.chosen_long;
      held_long = length-set R.held j _ ∙ h.sized.held_long;
      firsts_long = length-set R.firsts j _ ∙ h.sized.firsts_long;
      nexts_long = length-set R.nexts x _ ∙ h.sized.nexts_long;
      lasts_long = n_lasts ∙ h.sized.lasts_long;
      befores_long = n_befores ∙ h.sized.befores_long;
      bars_long = n_bars ∙ h.sized.bars_long;
    }

    pub sized_filled : Sized t (seating chosen' held' firsts' nexts' R.lasts R.befores R.bars)
    sized_filled = sized_with refl refl refl

    pub linked_filled : Linked (length t.amounts) (of held' j) (of firsts' j) nexts' × (0 < of held' j)
    linked_filled = rw held_here ((slot' j, rw first_here chain_here), omega arith)

    chains_filled : (l : ℕ) → l < length t.asks
        → Chain (length t.amounts) (of held' l) (slot' l) (of firsts' l) nexts'
    chains_filled l ll = ⊎_elim
        (λ (z : l ≡ j). rw (z, held_here, first_here) chain_here)
        (λ (ne : l ≡ j → ⊥). rw (held_other l ne)
        (chain_same (get_or-set_other R.firsts j l _ 0 ne) (λ k _. slot_is.kept l k (λ z. absurd (ne z)))
        (λ k lk. next_kept _ (not_x l k ll lk)) (h.chains l ll)))
        (eq_or_ne l j)

    after_filled :
        (lasts' befores' bars' : List ℕ) → length lasts' ≡ length R.lasts → length befores' ≡ length R.befores
        → length bars' ≡ length R.bars
        → ((l : ℕ) → (l ≡ j → ⊥) → of lasts' l ≡ of R.lasts l)
        → ((l : ℕ) → (l ≡ j → ⊥) → of befores' l ≡ of R.befores l)
        → ((l : ℕ) → (l ≡ j → ⊥) → of bars' l ≡ of R.bars l)
        → (of t.bays j ≤ hold + 1 → IsLast (screened_at t c) (of chosen') j (of lasts' j)
        × At (slot' j) (hold + 1) (of lasts' j) (of befores' j))
        → of bars' j ≡ bar_of (screened_at t c) (of held') (of lasts') j
        → HeldIn t c (seating chosen' held' firsts' nexts' lasts' befores' bars')
        × Moved (screened_at t c) x (of R.chosen) 0 (of chosen')
    unfolding screened_at
    after_filled lasts' befores' bars' n_lasts n_befores n_bars kept kept_befores kept_bars full bar = (
      record {
        sized = sized_with n_lasts n_befores n_bars;
        holding = holding_after h.holding taking.0 (filled v.1 put) _ _
            (held_here ∙ ap (λ k. k + 1) (h.holding.counted j here)
            ∙ sym (one_holder_more (screened_at t c) taking.0 put))
            (rw (held_here, add-one) free) held_other (λ l _. kept l) (λ z. (full (rw held_here at z)).0);
        slot = slot';
        slotted = slotted_filled;
        chains = chains_filled;
        lasts_at = λ l ll z. ⊎_elim
            (λ (l_is : l ≡ j). rw (l_is, held_here) (full (rw (l_is, held_here) at z)).1)
            (λ (ne : l ≡ j → ⊥). rw (kept l ne, kept_befores l ne, held_other l ne)
            (at_same l ne (h.lasts_at l ll (rw (held_other l ne) at z))))
            (eq_or_ne l j);
        bars_are = λ l ll. ⊎_elim
            (λ (z : l ≡ j). rw z bar)
            (λ (ne : l ≡ j → ⊥). kept_bars l ne ∙ h.bars_are l ll
            ∙ bar_same (screened_at t c) _ _ _ _ l (held_other l ne) (kept l ne))
            (eq_or_ne l j);
      },
      into_free_bay (screened_at t c) (keys t c w) h.holding guest v.1 e put,
    )
      where
        at_same : (l : ℕ) → (l ≡ j → ⊥) → {k y b : ℕ} → At (h.slot l) k y b → At (slot' l) k y b
        at_same l ne {k} a = record {
          place = a.place;
          within = a.within;
          guest_is = a.guest_is ∙ sym (slot_is.kept l _ (λ z. absurd (ne z)));
          before_is = a.before_is ∙ ap (λ g. only (suc a.place <? k) (suc g))
              (sym (slot_is.kept l _ (λ z. absurd (ne z))));
        }

    -- a bay is left
    pub into_free : (of t.bays j ≡ hold + 1 → ⊥)
        → HeldIn t c (seating chosen' held' firsts' nexts' R.lasts R.befores R.bars)
        × Moved (screened_at t c) x (of R.chosen) 0 (of chosen')
    unfolding screened_at
    into_free ne =
        let left : hold + 1 < of t.bays j = ⊎_elim (λ l. l)
        (λ (l : of t.bays j ≤ hold + 1). absurd (ne (omega arith))) (lt_or_le (hold + 1) (of t.bays j)) in
        after_filled R.lasts R.befores R.bars refl refl refl (λ l _. refl) (λ l _. refl) (λ l _. refl)
        (λ full. absurd (omega arith))
        (h.bars_are j here ∙ bar_free (screened_at t c) _ _ j free
        ∙ sym (bar_free (screened_at t c) (of held') _ j (rw held_here left)))

    -- none is left
    pub into_last_free :
        {R' : Seating} → of t.bays j ≡ hold + 1
        → Closed (screened_at t c) (length t.amounts) j (seating chosen' held' firsts' nexts' R.lasts R.befores R.bars)
        R'
        → HeldIn t c R' × Moved (screened_at t c) x (of R.chosen) 0 (of R'.chosen)
    unfolding screened_at
    into_last_free full k = rw k.becomes (
        let y = k.guest in
        let in_lasts : j < length R.lasts = omega (arith, h.sized.lasts_long, here) in
        let in_befores : j < length R.befores = omega (arith, h.sized.befores_long, here) in
        let in_bars : j < length R.bars = omega (arith, h.sized.bars_long, here) in
        let last_here : of (set R.lasts j y) j ≡ y = get_or-set_same R.lasts j y 0 in_lasts in
        let before_here : of (set R.befores j k.before) j ≡ k.before =
        get_or-set_same R.befores j k.before 0 in_befores in
        after_filled (set R.lasts j y) (set R.befores j k.before) (set R.bars j _)
        (length-set R.lasts j y) (length-set R.befores j _) (length-set R.bars j _)
        (λ l ne. get_or-set_other R.lasts j l y 0 ne) (λ l ne. get_or-set_other R.befores j l _ 0 ne)
        (λ l ne. get_or-set_other R.bars j l _ 0 ne)
        (λ _. rw (last_here, before_here)
        (rw held_here at (last_holder here slotted_filled (chains_filled j here) k.last)))
        (get_or-set_same R.bars j _ 0 in_bars
        ∙ ap (λ g. suc (priority (screened_at t c) g j)) (sym last_here)
        ∙ sym (bar_full (screened_at t c) (of held') _ j (rw (held_here, full) (omega arith)))))

  -- ---- a full station: its last holder stands after the guest that it would take
  module _ (full : of t.bays j ≤ hold) where
    abbrev out : ℕ
    out = of R.lasts j

    last_is : IsLast (screened_at t c) (of R.chosen) j out
    unfolding screened_at
    last_is = h.holding.lasts j here full

    last_at : At (h.slot j) hold out (of R.befores j)
    last_at = h.lasts_at j here full

    pub last_guest : out < length t.amounts
    unfolding screened_at
    last_guest = last_is.guest

    -- the number before it is a guest's, or 0
    pub before_low : of R.befores j ≤ length t.amounts
    before_low = ⊎_elim
        (λ (z : suc last_at.place < hold).
        rw (last_at.before_is ∙ only_yes _ _ (is_lt _ _ z)) ((h.chains j here).guests _ z))
        (λ (z : hold ≤ suc last_at.place).
        rw (last_at.before_is ∙ only_no _ _ (not_lt _ _ z)) (omega arith))
        (lt_or_le (suc last_at.place) hold)

    before_last : sooner (screened_at t c) x j out j ≡ true
    unfolding takes screened_at
    before_last = ⊎_elim
        (λ z. absurd (let free : hold < of t.bays j = lt_yes _ _ z in omega arith))
        (λ z. z)
        (or_cases _ _ taking.1)

    abbrev seats : List ℕ
    seats = set (set R.chosen out 0) x (j + 1)

    put_out : Put (of R.chosen) out 0 (of (set R.chosen out 0))
    put_out = put_set R.chosen out 0 (omega (arith, h.sized.chosen_long, last_guest)) refl

    put_in_lem : Put (of (set R.chosen out 0)) x (suc j) (of seats)
    put_in_lem =
        let n : length (set R.chosen out 0) ≡ length t.amounts = length-set R.chosen _ 0 ∙ h.sized.chosen_long in
        put_set (set R.chosen out 0) x (j + 1) (omega (arith, v.0)) (add-one j)

    reseated : Reseated (of R.chosen) x j (of seats)
    reseated = replaced v.1 last_is.holds put_out put_in_lem

    abbrev swapped : ℕ → ℕ → ℕ
    swapped = put_in h.slot j last_at.place x

    swap_is : SlotPut h.slot j last_at.place x swapped
    swap_is = slot_put h.slot j last_at.place x

    slotted_swapped : Slotted (screened_at t c) (of seats) (of R.held) swapped
    unfolding screened_at
    slotted_swapped =
        slotted_after h.slotted (λ i l li o. (h.holding.candidates i l li o).0) reseated v.0 v.1
        put_in_lem.placed swap_is
        (λ k lk ne. let holds = (h.slotted.holds j k here lk).1 in
        put_in_lem.kept _ (no_seat (of R.chosen) v.1 holds)
        ∙ put_out.kept _ (λ z. ne (h.slotted.once j k _ here lk last_at.within (z ∙ last_at.guest_is)))
        ∙ holds)
        (λ k lk k_is z. no_seat (of seats) gone z (ap (h.slot j) k_is ∙ sym last_at.guest_is))
        (λ k lk. lk) last_at.within (λ k lk _. lk) (λ l _. refl)
      where
        gone : of seats out ≡ 0
        gone = put_in_lem.kept _ (no_seat (of R.chosen) v.1 last_is.holds) ∙ put_out.placed

    -- the chains after `relink`
    module _ {R' : Seating}
        (r : Relinked j x (seating seats R.held R.firsts R.nexts R.lasts R.befores R.bars) R') where
      in_firsts : j < length R.firsts
      in_firsts = omega (arith, h.sized.firsts_long, here)

      in_nexts : x < length R.nexts
      in_nexts = omega (arith, h.sized.nexts_long, v.0)

      inside : (k : ℕ) → k < hold → h.slot j k < length R.nexts
      inside k lk = omega (arith, h.sized.nexts_long, (h.chains j here).guests k lk)

      chains_swapped : (l : ℕ) → l < length t.asks
          → Chain (length t.amounts) (of R.held l) (swapped l) (of R'.firsts l) R'.nexts
      unfolding screened_at
      chains_swapped l ll = ⊎_elim
          (λ (z : l ≡ j). rw z (relinked_chain r last_at in_firsts in_nexts inside (λ k lk. not_x j k here lk)
          v.0 (λ k p lk lp. h.slotted.once j k p here lk lp) swap_is.placed
          (λ k ne. swap_is.kept j k (λ _. ne)) (h.chains j here)))
          (λ (ne : l ≡ j → ⊥).
          chain_same (relinked_others r last_at in_firsts in_nexts inside (λ k lk. not_x j k here lk) l ne)
          (λ k _. swap_is.kept l k (λ z. absurd (ne z)))
          (λ k lk. relinked_elsewhere r last_at in_firsts in_nexts inside (λ k lk. not_x j k here lk)
          (h.slot l k) (not_x l k ll lk) (λ p lp. elsewhere l k p ll ne lk lp)) (h.chains l ll))
          (eq_or_ne l j)

      abbrev others : Seating
      others = seating seats R.held R'.firsts R'.nexts R.lasts R.befores R.bars

      relinked : R' ≡ others
      relinked = relinked_is r last_at in_firsts in_nexts inside (λ k lk. not_x j k here lk)

      pub linked_swapped : Linked (length t.amounts) (of R'.held j) (of R'.firsts j) R'.nexts × (0 < of R'.held j)
      linked_swapped =
          subst (λ r. Linked (length t.amounts) (of r.held j) (of R'.firsts j) R'.nexts × (0 < of r.held j))
          (sym relinked) ((swapped j, chains_swapped j here), omega (arith, full, w.bays_least j here))

      swapped_lengths : (length R'.firsts ≡ length R.firsts) × (length R'.nexts ≡ length R.nexts)
      swapped_lengths = relinked_lengths r last_at in_firsts in_nexts inside (λ k lk. not_x j k here lk)

      sized_after : {lasts' befores' bars' : List ℕ} → length lasts' ≡ length R.lasts
          → length befores' ≡ length R.befores → length bars' ≡ length R.bars
          → Sized t (seating seats R.held R'.firsts R'.nexts lasts' befores' bars')
      sized_after n_lasts n_befores n_bars = record {
        chosen_long = length-set (set R.chosen out 0) x _ ∙ length-set R.chosen _ 0 ∙ h.sized.chosen_long;
        held_long = h.sized.held_long;
        firsts_long = swapped_lengths.0 ∙ h.sized.firsts_long;
        nexts_long = swapped_lengths.1 ∙ h.sized.nexts_long;
        lasts_long = n_lasts ∙ h.sized.lasts_long;
        befores_long = n_befores ∙ h.sized.befores_long;
        bars_long = n_bars ∙ h.sized.bars_long;
      }

      pub sized_swapped : Sized t R'
      sized_swapped = subst (Sized t) (sym relinked) (sized_after refl refl refl)

      pub into_last :
          {R'' : Seating} → Closed (screened_at t c) (length t.amounts) j R' R''
          → HeldIn t c R'' × Moved (screened_at t c) x (of R.chosen) (suc out) (of R''.chosen)
      unfolding screened_at
      into_last {R''} k =
          let becomes : R'' ≡ seating seats R.held R'.firsts R'.nexts (set R.lasts j k.guest) (set R.befores j k.before)
          (set R.bars j (suc (priority (screened_at t c) k.guest j))) = k.becomes
          ∙ ap (λ r. seating r.chosen r.held R'.firsts R'.nexts (set r.lasts j k.guest) (set r.befores j k.before)
          (set r.bars j (suc (priority (screened_at t c) k.guest j)))) relinked in
          let chain_last = subst (λ r. LastOf (screened_at t c) j (length t.amounts) (of r.held j) (of R'.firsts j)
          R'.nexts k.guest k.before) relinked k.last in rw becomes (
          let y = k.guest in
          let in_lasts : j < length R.lasts = omega (arith, h.sized.lasts_long, here) in
          let in_befores : j < length R.befores = omega (arith, h.sized.befores_long, here) in
          let in_bars : j < length R.bars = omega (arith, h.sized.bars_long, here) in
          let last_here : of (set R.lasts j y) j ≡ y = get_or-set_same R.lasts j y 0 in_lasts in
          let before_here : of (set R.befores j k.before) j ≡ k.before =
          get_or-set_same R.befores j k.before 0 in_befores in
          let kept : (l : ℕ) → (l ≡ j → ⊥) → of (set R.lasts j y) l ≡ of R.lasts l =
          λ l ne. get_or-set_other R.lasts j l y 0 ne in
          let (is_last, at) = last_holder here slotted_swapped (chains_swapped j here) chain_last in (
            record {
              sized = sized_after (length-set R.lasts j y) (length-set R.befores j _) (length-set R.bars j _);
              holding = holding_after h.holding taking.0 reseated _ _
                  (h.holding.counted j here
                  ∙ sym (as_many_holders (screened_at t c) taking.0 last_is put_out put_in_lem))
                  (h.holding.fits j here) (λ l ne. refl) (λ l _. kept l) (λ _. rw last_here is_last);
              slot = swapped;
              slotted = slotted_swapped;
              chains = chains_swapped;
              lasts_at = λ l ll z. ⊎_elim
                  (λ (l_is : l ≡ j). rw (l_is, last_here, before_here) at)
                  (λ (ne : l ≡ j → ⊥). rw (kept l ne, get_or-set_other R.befores j l _ 0 ne)
                  (at_same l ne (h.lasts_at l ll z)))
                  (eq_or_ne l j);
              bars_are = λ l ll. ⊎_elim
                  (λ (z : l ≡ j). rw z (get_or-set_same R.bars j _ 0 in_bars
                  ∙ ap (λ g. suc (priority (screened_at t c) g j)) (sym last_here)
                  ∙ sym (bar_full (screened_at t c) (of R.held) _ j full)))
                  (λ (ne : l ≡ j → ⊥). get_or-set_other R.bars j l _ 0 ne ∙ h.bars_are l ll
                  ∙ bar_same (screened_at t c) _ _ _ _ l refl (kept l ne))
                  (eq_or_ne l j);
            },
            in_place_of_last (screened_at t c) (keys t c w) h.holding guest v.1 e full before_last put_out put_in_lem,
          ))
        where
          at_same : (l : ℕ) → (l ≡ j → ⊥) → {k y b : ℕ} → At (h.slot l) k y b → At (swapped l) k y b
          at_same l ne {k} a = record {
            place = a.place;
            within = a.within;
            guest_is = a.guest_is ∙ sym (swap_is.kept l _ (λ z. absurd (ne z)));
            before_is = a.before_is ∙ ap (λ g. only (suc a.place <? k) (suc g))
                (sym (swap_is.kept l _ (λ z. absurd (ne z))));
          }
