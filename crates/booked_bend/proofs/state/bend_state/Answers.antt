-- The table is gone through row by row, and what passes it is entered.
use Rattle.std.proofs.Common.{◌≡◌, refl, sym, ◌∙◌, ap, ap₂, subst, rules}
use Rattle.std.specs.Prelude.{Bool, true, false, not, List, [], ◌∷◌, ℕ, ◌^◌, ◌<◌, length, drop}
use Rattle.integers.specs.Size.{◌within◌}
use Rattle.model.specs.Book.{Columns, columns, with_bend, column_ok, columns_ok}
use Rattle.model.specs.Booking.{BentResult, bent_rules}
use Rattle.model.specs.Changes.{with_tension}
use Rattle.model.specs.Energy.{stored_energy}
use Rattle.model.specs.Lending.{the_state}
use Rattle.model.specs.Ranges.{all}
use Rattle.model.specs.Refusal.{Rule, first_of, number, accepted, refused}
use Rattle.model.specs.Run.{bend_work}
use Rattle.model.specs.Setup.{length_ok, setup_rules}
use Rattle.model.specs.State.{State}
use Rattle.model.specs.Step.{state_ok}
use Rattle.model.specs.declared.Setup.{Setup}
use Rattle.model.specs.declared.refusal.Refusal as Refusals
use Rattle.laws.specs.Accepted.{setup-passed, right-lengths}
use Rattle.laws.specs.Answered.{handed-on, refused-rows, turned-down}
use Rattle.laws.specs.EnergySizes.{Held, strings, bend-size}
use Rattle.laws.specs.InRange.{in-range}
use Rattle.laws.specs.Refusals.{Reached, row-holds-not, row-passed-not, row-fact, not-not, all_yes, made_by}
use Rattle.laws.specs.Sizes.{inside-within}
use Rattle.setup.specs.Entry.{begun}
use Rattle.book.specs.Entering.{raised_book}
use Rattle.booked_bend.specs.BookedBend.{bend_on}
use Rattle.booked_bend.proofs.state.bend_state.Goals as goal

-- by what each examination answered; `made` is the setup with the new tension
module _ (s : Setup) (x : State) (b : Columns) (L' : ℕ) {made : Setup} (is : made ≡ with_tension s L') where
  abbrev next : Setup
  next = with_tension s L'

  abbrev table : List Rule
  table = bent_rules s x b L'

  abbrev buffers : List ℕ
  buffers = length x.newer ∷ length x.older ∷ length x.contact ∷ []

  abbrev Refused : Refusals.Refusal → Type 0
  Refused e = ◌≡◌ {A = BentResult} (record { answer = refused (number e); book = b }) (bend_on s x b L')

  turned_down : (e : Refusals.Refusal) → first_of table ≡ number e → Refused e
  unfolding bend_on
  turned_down e given = turned-down table _ _ e given

  at-5 : (e : Refusals.Refusal) → number e ≡ first_of (setup_rules made) → Refused e
  unfolding bent_rules setup_rules
  at-5 e judged = turned_down e (refused-rows (setup_rules next) e (judged ∙ ap (λ s. first_of (setup_rules s)) is) (drop 5 table))

  module _ (e-5 : 0 ≡ first_of (setup_rules made)) {t-6 : Bool} (judged-6 : t-6 ≡ all (length_ok made) buffers) where
    passed-5 : 0 ≡ first_of (setup_rules next)
    passed-5 = e-5 ∙ ap (λ s. first_of (setup_rules s)) is

    e-6 : t-6 ≡ all (length_ok next) buffers
    e-6 = judged-6 ∙ ap (λ s. all (length_ok s) buffers) is

    after-5 : Reached table (drop 5 table)
    unfolding bent_rules setup_rules
    after-5 = (begun next (drop 5 table) passed-5 refl).reached

    at-6 : t-6 ≡ false → Refused Refusals.Refusal.BufferLength
    unfolding bent_rules setup_rules
    at-6 h = turned_down Refusals.Refusal.BufferLength (row-holds-not after-5 e-6 (ap not h))

    module _ (h-6 : t-6 ≡ true) {t-11 : Bool} (e-11 : t-11 ≡ state_ok x) where
      after-6 : Reached table (drop 6 table)
      unfolding bent_rules setup_rules
      after-6 = row-passed-not after-5 e-6 (ap not h-6)

      at-11 : t-11 ≡ false → Refused Refusals.Refusal.State
      unfolding bent_rules setup_rules
      at-11 h = turned_down Refusals.Refusal.State (row-holds-not after-6 e-11 (ap not h))

      held : t-11 ≡ true → Held next x
      held h =
          let l = right-lengths next buffers (not-not (all (length_ok next) buffers) (row-fact e-6 (ap not h-6))) in
          record { setup = setup-passed next 0 passed-5 refl; newer-length = l.0; older-length = l.1.0; contact-length = l.1.1.0; range = in-range x (not-not (state_ok x) (row-fact e-11 (ap not h)), tt) }

      module _ (h-11 : t-11 ≡ true) {t-17 : Bool} (e-17 : t-17 ≡ columns_ok b) where
        after-11 : Reached table (drop 7 table)
        unfolding bent_rules setup_rules
        after-11 = row-passed-not after-6 e-11 (ap not h-11)

        at-17 : t-17 ≡ false → Refused Refusals.Refusal.BookColumn
        unfolding bent_rules setup_rules
        at-17 h = turned_down Refusals.Refusal.BookColumn (row-holds-not after-11 e-17 (ap not h))

        bent : t-17 ≡ true → ◌≡◌ {A = BentResult} (record { answer = accepted next; book = with_bend b record { setup = s; tension = L'; state = x } }) (bend_on s x b L')
        unfolding bend_on bent_rules setup_rules
        bent h = made_by table _ _ (row-passed-not after-11 e-17 (ap not h)).number

-- the column that a bend adds to
work-column : (b : Columns) {t : Bool} → t ≡ columns_ok b → t ≡ true → b.work within 2 ^ 120
unfolding column_ok
work-column b e h = inside-within (2 ^ 120) b.work (all_yes column_ok (b.stored ∷ b.work ∷ b.loss ∷ b.rounding ∷ []) (not-not (columns_ok b) (row-fact e (ap not h)))).1.0

pub returns-in_err-examine_setup : goal.returns-in_err-examine_setup
returns-in_err-examine_setup c = rw (handed-on _ _ c.from_residual.ensures) (at-5 _ _ _ _ c.with_tension-next.ensures _ c.in_err-examine_setup.ensures)

pub lengths_ok-requires : goal.lengths_ok-requires
lengths_ok-requires c = (begun c.with_tension-next.result [] c.in_ok-examine_setup.ensures refl).facts.segments-low

pub returns-then-not-lengths_ok : goal.returns-then-not-lengths_ok
returns-then-not-lengths_ok c = at-6 _ (the_state c.args.state) _ _ c.with_tension-next.ensures c.in_ok-examine_setup.ensures c.lengths_ok.ensures c.if-not-lengths_ok.true

pub returns-then-not-state_ok : goal.returns-then-not-state_ok
returns-then-not-state_ok c =
    at-11 _ (the_state c.args.state) _ _ c.with_tension-next.ensures c.in_ok-examine_setup.ensures c.lengths_ok.ensures c.if-not-lengths_ok.false c.state_ok.ensures c.if-not-state_ok.true

pub returns-then-not-columns_ok : goal.returns-then-not-columns_ok
returns-then-not-columns_ok c =
    at-17 _ (the_state c.args.state) _ _ c.with_tension-next.ensures c.in_ok-examine_setup.ensures c.lengths_ok.ensures c.if-not-lengths_ok.false c.state_ok.ensures c.if-not-state_ok.false
    c.columns_ok.ensures c.if-not-columns_ok.true

pub bend_work-work-requires : goal.bend_work-work-requires
bend_work-work-requires c =
    strings (held c.args.setup (the_state c.args.state) (columns c.args.book.now) c.args.tension c.with_tension-next.ensures c.in_ok-examine_setup.ensures c.lengths_ok.ensures c.if-not-lengths_ok.false c.state_ok.ensures c.if-not-state_ok.false)

pub stored_energy-stored-requires : goal.stored_energy-stored-requires
stored_energy-stored-requires c =
    subst (λ s. Held s (the_state c.args.state)) (sym c.with_tension-next.ensures)
    (held c.args.setup (the_state c.args.state) (columns c.args.book.now) c.args.tension c.with_tension-next.ensures c.in_ok-examine_setup.ensures c.lengths_ok.ensures c.if-not-lengths_ok.false c.state_ok.ensures c.if-not-state_ok.false)

pub with_bend-requires : goal.with_bend-requires
with_bend-requires c =
    let h = held c.args.setup (the_state c.args.state) (columns c.args.book.now) c.args.tension c.with_tension-next.ensures c.in_ok-examine_setup.ensures c.lengths_ok.ensures c.if-not-lengths_ok.false c.state_ok.ensures c.if-not-state_ok.false in
    let old : c.args.setup.tension < 2 ^ 32 = let h = c.well_formed.0 in search rules in
    let new : c.args.tension < 2 ^ 32 = search rules in
    (work-column (columns c.args.book.now) c.columns_ok.ensures c.if-not-columns_ok.false, subst (λ z. z within 2 ^ 84) (sym c.bend_work-work.ensures) (bend-size (strings h) old new))

pub returns : goal.returns
unfolding bend_work
returns c =
    let is = c.with_tension-next.ensures in
    let x = the_state c.args.state in
    let book-is = c.with_bend.ensures ∙ ap₂ (raised_book (columns c.args.book.now)) (c.stored_energy-stored.ensures ∙ ap (λ s. stored_energy s x) is) c.bend_work-work.ensures in
    (λ i. record { answer = accepted (is i); book = book-is i })
    ∙ bent _ x _ _ is c.in_ok-examine_setup.ensures c.lengths_ok.ensures c.if-not-lengths_ok.false c.state_ok.ensures c.if-not-state_ok.false c.columns_ok.ensures c.if-not-columns_ok.false
