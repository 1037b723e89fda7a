-- 02, item 6, worked: what words say, the first step of the bench voice, 16 and 17 at their boundaries and in their order, and a list of booked calls.
use Rattle.std.specs.Prelude.{◌≡◌, refl, ℕ, ◌+◌, ◌^◌, ℤ, pos, neg_ℤ, replicate}
use mathlib.Core.List.{List, [], ◌∷◌, map, zip_with}
use Rattle.integers.specs.Sum.{sum}
use Rattle.model.specs.Ranges.{between, inside, displacement_ok, contact_ok, force_ok, height_ok}
use Rattle.model.specs.Refusal.{first_of, accepted, refused}
use Rattle.model.specs.Setup.{setup, setup_rules, place_ok, length_ok}
use Rattle.model.specs.Changes.{slide}
use Rattle.model.specs.Differences.{plus, minus, times, D1, dot, E}
use Rattle.model.specs.Gradient.{gradient, root, greatest}
use Rattle.model.specs.Rounding.{nearest, floor}
use Rattle.model.specs.System.{rounded₁, rounded₂}
use Rattle.model.specs.State.{Lent, state_of, put, Forces}
use Rattle.model.specs.Step.{gradients, moves, worked_step, next_state, A, c, system, call_rules, result_rules, clear, cleared, kept, let_go, settled, some_pull, dropped, totals, pulls, left}
use Rattle.model.specs.Energy as Energy
use Rattle.model.specs.Energy.{stored_energy, released, residuals, dot_all}
use Rattle.model.specs.Steps.{voice}
use Rattle.model.specs.Run.{Request, to_step, to_bend, to_slide, stepped, bent, slid, bend_work}
use Rattle.model.specs.Wide.{value}
use Rattle.model.specs.Book.{Columns, column_ok}
use Rattle.model.specs.Booking.{booked_rules, booked_step, bent_rules, booked_bend}
use Rattle.model.specs.BookedRun.{Kept, keeping, booked, last_kept, accepted_requests, steps}
use Rattle.model.specs.Bench.{bench_setup, bench, flat_neck, finger, resting_finger, one_point, forces}

abbrev book : (stored work loss rounding : ℤ) → ℕ → Columns
book stored work loss rounding count = record { stored = stored; work = work; loss = loss; rounding = rounding; count = count }

-- ---- words

-- 5, −1, 2^64, −2^64 and the ends of the range of a column
values-are : map value (record { high = pos 0; low = 5 } ∷ record { high = neg_ℤ (pos 1); low = 18446744073709551615 } ∷ record { high = pos 1; low = 0 } ∷ record { high = neg_ℤ (pos 1); low = 0 }
    ∷ record { high = pos 72057594037927936; low = 0 } ∷ record { high = neg_ℤ (pos 72057594037927936); low = 0 } ∷ [])
    ≡ pos 5 ∷ neg_ℤ (pos 1) ∷ pos 18446744073709551616 ∷ neg_ℤ (pos 18446744073709551616) ∷ pos (2 ^ 120) ∷ neg_ℤ (pos (2 ^ 120)) ∷ []
values-are = refl

-- ---- the first step of the bench voice

first : ℤ → Columns
first pluck = (booked_step bench (flat_neck 0) (one_point (pos 0) (pos 0) (pos 0) 0 resting_finger) (book (pos 0) (pos 0) (pos 0) (pos 0) 0) (forces pluck (pos 0))).book

-- plucked by 4096 it moves by 1, by 2048 it stays
first-are : first (pos 4096) ∷ first (pos 2048) ∷ [] ≡ book (pos 8192) (pos 8192) (pos 0) (pos 0) 1 ∷ book (pos 0) (pos 0) (pos 0) (pos 0) 1 ∷ []
unfolding first booked_step booked_rules call_rules result_rules setup_rules place_ok length_ok between inside height_ok displacement_ok contact_ok force_ok column_ok state_of put worked_step
    clear cleared kept let_go settled some_pull dropped totals pulls left next_state gradients gradient root greatest moves A c system rounded₁ rounded₂ nearest floor plus minus times
    zip_with D1 dot E sum Energy.loss released Energy.work residuals dot_all Energy.rounding_work stored_energy
first-are = refl

-- ---- refusals

-- a point at the upper end of its range, which the largest force leads beyond it: 13
at_end : Lent
at_end = one_point (pos 1048576) (pos 1048576) (pos 0) 0 resting_finger

number : Columns → Forces → ℕ
number b F = first_of (booked_rules (bench_setup 1 0 0 0 0) (flat_neck 0) (state_of at_end) b F)

abbrev full : ℕ
full = 4294967295

abbrev beyond : ℤ
beyond = pos (2 ^ 120 + 1)

-- 12, 16, 17, 13: each where the later ones hold too; a column at either end is in its range, one beyond it is not, in each of the four
numbers-are : number (book beyond (pos 0) (pos 0) (pos 0) full) (forces (pos 1073741825) (pos 0)) ∷ number (book beyond (pos 0) (pos 0) (pos 0) full) (forces (pos 1073741824) (pos 0))
    ∷ number (book (pos 0) (pos 0) (pos 0) (pos 0) full) (forces (pos 0) (pos 0))
    ∷ number (book beyond (pos 0) (pos 0) (pos 0) 0) (forces (pos 1073741824) (pos 0)) ∷ number (book (pos 0) (neg_ℤ beyond) (pos 0) (pos 0) 0) (forces (pos 0) (pos 0))
    ∷ number (book (pos 0) (pos 0) beyond (pos 0) 0) (forces (pos 0) (pos 0)) ∷ number (book (pos 0) (pos 0) (pos 0) (neg_ℤ beyond) 4294967294) (forces (pos 0) (pos 0))
    ∷ number (book (pos (2 ^ 120)) (neg_ℤ (pos (2 ^ 120))) (pos (2 ^ 120)) (neg_ℤ (pos (2 ^ 120))) 4294967294) (forces (pos 1073741824) (pos 0))
    ∷ number (book (pos (2 ^ 120)) (neg_ℤ (pos (2 ^ 120))) (pos (2 ^ 120)) (neg_ℤ (pos (2 ^ 120))) 4294967294) (forces (pos 0) (pos 0)) ∷ []
    ≡ 12 ∷ 16 ∷ 16 ∷ 17 ∷ 17 ∷ 17 ∷ 17 ∷ 13 ∷ 0 ∷ []
unfolding at_end number booked_rules call_rules result_rules setup_rules place_ok length_ok between inside height_ok displacement_ok contact_ok force_ok column_ok state_of worked_step
    clear cleared kept let_go settled some_pull dropped totals pulls left next_state gradients gradient root greatest moves A c system rounded₁ rounded₂ nearest floor plus minus times
    zip_with D1
numbers-are = refl

bent_number : ℕ → Lent → Columns → ℕ
bent_number L' v b = first_of (bent_rules (bench_setup 9999 0 0 0 0) (state_of v) b L')

-- of a bend: 2 for the new L, whatever the old one; 6 for a contact buffer, 11 for the finger's variable, 17; never 16
bent-numbers-are : bent_number 0 (one_point (pos 0) (pos 1048577) (pos 0) 0 resting_finger) (book beyond (pos 0) (pos 0) (pos 0) full)
    ∷ bent_number 1 record { first = pos 0 ∷ []; second = pos 1048577 ∷ []; contact = []; turn = 0; finger = resting_finger } (book beyond (pos 0) (pos 0) (pos 0) full)
    ∷ bent_number 1 (one_point (pos 0) (pos 0) (pos 0) 0 (finger (pos 0) (pos 0) (pos 67108865))) (book beyond (pos 0) (pos 0) (pos 0) full)
    ∷ bent_number 1 (one_point (pos 0) (pos 0) (pos 0) 0 resting_finger) (book (pos 0) (pos 0) (pos 0) beyond full)
    ∷ bent_number 1 (one_point (pos 0) (pos 0) (pos 0) 0 resting_finger) (book (pos 0) (pos 0) (pos 0) (pos (2 ^ 120)) full) ∷ [] ≡ 2 ∷ 6 ∷ 11 ∷ 17 ∷ 0 ∷ []
unfolding bent_number bent_rules setup_rules place_ok length_ok between inside displacement_ok contact_ok column_ok state_of
bent-numbers-are = refl

-- a refused step leaves the book
not-booked_is : booked_step (bench_setup 1 0 0 0 0) (flat_neck 0) at_end (book (pos 1) (pos 2) (pos 3) (pos 4) 5) (forces (pos 1073741824) (pos 0))
    ≡ record { answer = refused 13; lent = at_end; book = book (pos 1) (pos 2) (pos 3) (pos 4) 5 }
unfolding at_end booked_step booked_rules call_rules result_rules setup_rules place_ok length_ok between inside height_ok displacement_ok contact_ok force_ok column_ok state_of worked_step
    clear cleared kept let_go settled some_pull dropped totals pulls left next_state gradients gradient root greatest moves A c system rounded₁ rounded₂ nearest floor plus minus times
    zip_with D1
not-booked_is = refl

-- ---- bends and lists

-- one point at 3, before at 5, bent from L = 100 to 300 and, its old L out of range, from 4,000,000,000 to 300: E(u, v) is 30
bends-are : map (λ (l : ℕ). booked_bend (bench_setup l 0 0 0 0) (one_point (pos 3) (pos 5) (pos 0) 7 resting_finger) (book (pos 1) (pos 2) (pos 3) (pos 4) full) 300) (100 ∷ 4000000000 ∷ [])
    ≡ record { answer = accepted (bench_setup 300 0 0 0 0); book = book (pos 50768) (pos 12002) (pos 3) (pos 4) full }
    ∷ record { answer = accepted (bench_setup 300 0 0 0 0); book = book (pos 50768) (neg_ℤ (pos 239999981998)) (pos 3) (pos 4) full } ∷ []
unfolding booked_bend bent_rules setup_rules place_ok length_ok between inside displacement_ok contact_ok column_ok state_of bend_work minus zip_with D1 dot E sum stored_energy
bends-are = refl

-- a book that began elsewhere, beside one point with losses, whose contact variable of 40 is cleared
listed : Kept
listed = keeping (voice (bench_setup 1000 0 0 50 20) (one_point (pos 300) (pos 250) (pos 40) 0 resting_finger)) (book (pos 1) (pos 5) (pos 7) (neg_ℤ (pos 9)) 3)

-- a bend, a step and a slide, each behind one that is refused
calls : List Request
calls = to_bend 0 ∷ to_bend 1300 ∷ to_step (forces (pos 1073741825) (pos 0)) ∷ to_step (forces (pos 12345) (neg_ℤ (pos 678))) ∷ to_slide 2 ∷ to_slide 1 ∷ []

-- stored is worked out, the other columns go on
listed-book_is : (last_kept (flat_neck 30000) listed calls).book ≡ book (pos 407359232) (pos 87876665) (pos 742807) (neg_ℤ (pos 257837)) 4
unfolding listed calls last_kept booked slide setup booked_step booked_bend booked_rules bent_rules call_rules result_rules setup_rules place_ok length_ok between inside height_ok displacement_ok contact_ok
    force_ok column_ok state_of put worked_step clear cleared kept let_go settled some_pull dropped totals pulls left next_state gradients gradient root greatest moves A c system rounded₁
    rounded₂ nearest floor plus minus times zip_with D1 dot E sum Energy.loss released Energy.work residuals dot_all Energy.rounding_work stored_energy bend_work
listed-book_is = refl

accepted-are : accepted_requests (flat_neck 30000) listed calls ≡ to_bend 1300 ∷ to_step (forces (pos 12345) (neg_ℤ (pos 678))) ∷ to_slide 1 ∷ []
unfolding listed calls accepted_requests booked slide setup booked_step booked_bend booked_rules bent_rules call_rules result_rules setup_rules place_ok length_ok between inside height_ok displacement_ok
    contact_ok force_ok column_ok state_of put worked_step clear cleared kept let_go settled some_pull dropped totals pulls left next_state gradients gradient root greatest moves A c system
    rounded₁ rounded₂ nearest floor plus minus times zip_with D1 dot E sum Energy.loss released Energy.work residuals dot_all Energy.rounding_work stored_energy bend_work
accepted-are = refl

-- of a bend, a slide and two steps, two are steps
steps-are : steps (bent record { setup = bench; tension = 1; state = state_of at_end } ∷ slid ∷ map stepped (replicate 2 (worked_step bench (flat_neck 0) (state_of at_end) (forces (pos 0) (pos 0))))) ≡ 2
unfolding steps
steps-are = refl
