-- C-16, "How much more may be bought": answers computed from bytes to bytes, each held against the charge; the refusals, and what stands in the lent buffer.
use Rattle.refusal.specs.Chain.{Answer}
use Rattle.std.specs.Prelude.{Bool, ◌&&◌, ◌||◌, List, [], ◌∷◌, ◌++◌, ℕ, ◌+◌, ◌*◌, T, length, take, drop, replicate}
use Rattle.words.specs.Words.{◌<?◌, ◌=?◌, each_of, every, count_from}
use Rattle.words.specs.Below.{all_below}
use Rattle.wire.specs.Bytes.{M, bytes16, placed}
use Rattle.wire.specs.Amounts.{amounts_bytes}
use Rattle.book.specs.Build.{counterparty, mitigant, book_bytes}
use Rattle.cascade.specs.Cut.{stands}
use Rattle.figures.specs.Report.{charge}
use Rattle.headroom.specs.Headroom.{with_more, least_of, room_in}
use Rattle.report.specs.Answer.{fund_in, written_by}
use Rattle.asking.specs.Questions.{answer_size, count_of, place_at, kind_at, question_at, good_question, good_list}
use Rattle.questions.specs.Headroom.{group_of, tier_for, answer_to, answers_of, headroom_check, headroom_answer, answer_in}
use Rattle.examples.specs.Build.{plain, reinsured, entered, usual, specialist, name, graded_name, bank}
use Rattle.examples.specs.Reading.{amounts_in}
use Rattle.examples.specs.Table.{published_bytes, same, accepted, turned}
use Rattle.examples.specs.Opened.{report_computed}

-- the answers, with every definition on the way opened: a proof that says `unfolding answers_computed` computes them
unfoldable answers_computed : List ℕ → List ℕ → List ℕ → List ℕ
unfolding report_computed amounts_bytes all_below stands with_more least_of room_in good_question good_list answer_to answers_of headroom_check headroom_answer
answers_computed schedule book questions = answers_of schedule book questions

-- ---- what a case says

-- a question, and a list of them: "a counterparty place (u16) and an asset kind (one byte)"
abbrev ask : ℕ → ℕ → List ℕ
ask place kind = bytes16 place ++ (kind ∷ [])

abbrev asks : List (List ℕ) → List ℕ
asks questions = each_of (λ q. q) questions

-- "without raising the charge; one cent more raises it unless the answer is M": the amount tried on the fund itself
abbrev greatest : List ℕ → List ℕ → ℕ → ℕ → ℕ → Bool
greatest schedule book place kind amount =
    let F = fund_in schedule book in
    let with : ℕ → ℕ = λ a. charge (with_more F (group_of book place) (tier_for book place kind) a) in
    with amount =? charge F && (amount =? M || charge F <? with (amount + 1))

-- the answers to a list, each of them the greatest, and each as it is "when sent singly"
unfoldable told : List ℕ → List ℕ → List ℕ → List ℕ → Bool
told schedule book questions amounts =
    let n = count_of questions in
    let R = answers_of schedule book questions in
    accepted (headroom_answer schedule book questions (answer_size * n)) (length R)
    && same (amounts_in n R) amounts
    && every (λ k. greatest schedule book (place_at questions k) (kind_at questions k) (answer_in R k)) (count_from 0 n)
    && every (λ k. same (answers_of schedule book (question_at questions k)) (take answer_size (drop (answer_size * k) R))) (count_from 0 n)

-- under the published schedule
abbrev tells : List ℕ → List (List ℕ) → List ℕ → Bool
tells book questions amounts = told published_bytes book (asks questions) amounts

-- ---- books. Tier 0 has a limit of 250,000,000, tiers 2 and 3 of 500,000,000, tiers 10 and 11 of 2,500,000,000, tier 12 of 5,000,000,000 less W

-- T2, and a third of it
abbrev t2 : ℕ → List ℕ
t2 value = usual (name ∷ []) (plain 11 1 value ∷ plain 6 1 value ∷ []) []

-- a bank's: 100,000,000 in tier 0, and deposits in tier 12
abbrev deposits : ℕ → List ℕ
deposits value = usual (bank ∷ []) (plain 11 1 100000000 ∷ plain 4 1 value ∷ []) []

-- 100,000,000 above tier 2's limit, and a bank in the same group
abbrev over : List ℕ
over = usual (name ∷ counterparty 1 1 1 0 ∷ []) (plain 11 1 100000000 ∷ plain 6 1 500000000 ∷ []) []

-- tiers 2 and 3, of equal limits
abbrev equal : List ℕ
equal = usual (graded_name ∷ []) (plain 6 1 300000000 ∷ reinsured 1 0 150000000 ∷ []) []

-- the home government, two graded life companies, of which the first is related, and a bank
abbrev free : List ℕ
free = usual (counterparty 0 2 1 0 ∷ counterparty 0 4 1 1 ∷ counterparty 0 4 1 0 ∷ bank ∷ []) (plain 1 1 9000000000 ∷ []) []

-- a group of three: an ungraded name, its child a bank, and of that a graded name
abbrev group : List ℕ
group = usual (name ∷ counterparty 1 1 1 0 ∷ counterparty 2 0 2 0 ∷ []) (plain 11 1 200000000 ∷ plain 6 3 100000000 ∷ []) []

-- bank bills, so that W is 1,000,000,000, and deposits
abbrev bills : List ℕ
bills = usual (bank ∷ []) (plain 3 1 1000000000 ∷ plain 4 1 2000000000 ∷ []) []

-- T8: the charge has an A3 excess
abbrev t8 : List ℕ
t8 = usual (graded_name ∷ graded_name ∷ graded_name ∷ name ∷ []) (reinsured 1 0 600000000 ∷ reinsured 2 0 600000000 ∷ reinsured 3 0 600000000 ∷ []) []

-- tier 15, of a limit of 1,700,000,000
abbrev retroceded : List ℕ
retroceded = specialist (name ∷ []) (entered 3 12 1 1600000000 ∷ []) []

-- treaties of 300,000,000 and 100,000,000 with one reinsurer and a letter for the first: half of both is 200,000,000, and as much is left in tier 3
abbrev treaties : List ℕ
treaties = usual (graded_name ∷ bank ∷ []) (reinsured 1 1 300000000 ∷ reinsured 1 0 100000000 ∷ []) (mitigant 5 8 2 300000000 ∷ [])

-- row d's rate in the published schedule
abbrev with_d : ℕ → List ℕ
with_d rate = placed published_bytes 24 (bytes16 rate)

-- VAF M, and a bank's deposits
abbrev largest : List (List ℕ) → List ℕ
largest assets = book_bytes M 0 0 (bank ∷ []) assets []

unfoldable answers : List Bool
answers =
    -- T2's group asked for kinds 11, 6 and 4, which is tier 0 for an ungraded name that is no bank: tiers 0 and 2 are full
    tells (t2 300000000) (ask 1 11 ∷ ask 1 6 ∷ ask 1 4 ∷ []) (0 ∷ 0 ∷ 0 ∷ [])
    -- and with 100,000,000 each. The report's left would be 250,000,000 and 400,000,000
    ∷ tells (t2 100000000) (ask 1 11 ∷ ask 1 6 ∷ ask 1 4 ∷ []) (150000000 ∷ 300000000 ∷ 150000000 ∷ [])
    -- tier 2, which the group hasn't yet, ranks between two that it has: 400,000,000 by its own limit, 200,000,000 by tier 12's
    ∷ tells (deposits 4700000000) (ask 1 6 ∷ ask 1 11 ∷ ask 1 4 ∷ []) (200000000 ∷ 150000000 ∷ 200000000 ∷ [])
    -- a higher tier that is full, without any excess
    ∷ tells (deposits 4900000000) (ask 1 6 ∷ ask 1 11 ∷ ask 1 4 ∷ []) (0 ∷ 0 ∷ 0 ∷ [])
    -- an excess in tier 2: 0 there and in tier 0, which has 150,000,000 itself; above it tiers 11 and 12, by what stands, 500,000,000, and not by the exposures, 600,000,000
    ∷ tells over (ask 1 11 ∷ ask 1 6 ∷ ask 2 3 ∷ ask 2 4 ∷ []) (0 ∷ 0 ∷ 2000000000 ∷ 4500000000 ∷ [])
    -- "an equal limit counts as lower": what is added to tier 2 stands in tier 3 too. By tier 2 alone it would be 200,000,000
    ∷ tells equal (ask 1 6 ∷ ask 1 11 ∷ []) (50000000 ∷ 50000000 ∷ [])
    -- C-17: tiers 0 and 1 with limits of 1.025 and 1.000, of which tier 1 has 1. What is added to tier 0 finds no room there, and by limits in cents
    -- none in tier 1; tier 2 has 2.05
    ∷ tells (book_bytes 41 0 1 (name ∷ []) (reinsured 1 0 1 ∷ []) []) (ask 1 11 ∷ ask 1 6 ∷ []) (0 ∷ 1 ∷ [])
    -- "A kind without limit answers M": kind 1 with the home government, kind 2 with a related life company, and no other
    ∷ tells free (ask 1 1 ∷ ask 1 2 ∷ ask 2 2 ∷ ask 2 1 ∷ ask 3 2 ∷ ask 4 1 ∷ []) (M ∷ 500000000 ∷ M ∷ 500000000 ∷ 500000000 ∷ 500000000 ∷ [])
    -- "that group's tier": the group is its topmost parent's, the tier the counterparty's own. Name by name kind 11 of 3 would have 250,000,000
    ∷ tells group (ask 3 11 ∷ ask 2 4 ∷ ask 3 4 ∷ ask 1 4 ∷ []) (50000000 ∷ 4700000000 ∷ 200000000 ∷ 50000000 ∷ [])
    -- "the report's limits held", W with them: with more bills tier 12's limit would fall, and kind 3 have 500,000,000
    ∷ tells bills (ask 1 3 ∷ ask 1 4 ∷ ask 1 11 ∷ []) (1000000000 ∷ 1000000000 ∷ 250000000 ∷ [])
    -- an A3 excess is in the charge before and after
    ∷ tells t8 (ask 1 6 ∷ ask 2 11 ∷ ask 4 11 ∷ []) (0 ∷ 0 ∷ 250000000 ∷ [])
    -- C-11's tiers above tier 2
    ∷ tells retroceded (ask 1 8 ∷ ask 1 11 ∷ []) (100000000 ∷ 100000000 ∷ [])
    -- C-18: by half of each treaty kind 6 would have 250,000,000, and the bank's kind 3 2,350,000,000
    ∷ tells treaties (ask 1 6 ∷ ask 1 11 ∷ ask 2 3 ∷ []) (300000000 ∷ 250000000 ∷ 2300000000 ∷ [])
    -- each kind with a bank; a question asked twice is answered twice
    ∷ tells (usual (bank ∷ []) [] []) (ask 1 3 ∷ ask 1 4 ∷ ask 1 5 ∷ ask 1 7 ∷ ask 1 10 ∷ ask 1 4 ∷ []) (2500000000 ∷ 5000000000 ∷ 500000000 ∷ 500000000 ∷ 500000000 ∷ 5000000000 ∷ [])
    -- "up to M": a limit of 1.5 M, one of M, and that with a cent in it
    ∷ told (with_d 1500) (largest []) (ask 1 4) (M ∷ [])
    ∷ told (with_d 1000) (largest []) (ask 1 4) (M ∷ [])
    ∷ told (with_d 1000) (largest (plain 4 1 1 ∷ [])) (ask 1 4) (9999999999999 ∷ [])
    -- no question, no answer
    ∷ tells (t2 1) [] []
    ∷ []

answers-hold : T (every (λ t. t) answers)
unfolding answers_computed told answers
answers-hold = tt

-- ---- the refusals, and the lent buffer

abbrev answer : List ℕ → List ℕ → ℕ → Answer
answer book questions buffer = headroom_answer published_bytes book questions buffer

-- the bytes lent, each of them 7, and what stands there afterwards
abbrev written : List ℕ → List ℕ → ℕ → List ℕ
written book questions n = written_by (answer book questions n) (answers_of published_bytes book questions) (replicate n 7)

-- so many questions, all the same
abbrev times : ℕ → List ℕ
times n = each_of (λ _. ask 1 11) (count_from 0 n)

-- refused 14, 15 and 17
abbrev over_total : List ℕ
over_total = book_bytes 4 0 0 (name ∷ []) (reinsured 1 0 5 ∷ []) []

abbrev over_excluded : List ℕ
over_excluded = book_bytes 0 0 1 [] [] []

abbrev not_marked : List ℕ
not_marked = book_bytes 4 0 0 (name ∷ []) (entered 3 0 1 5 ∷ []) []

unfoldable refusals : List Bool
refusals =
    -- "a list of up to 200 questions"
    accepted (answer group (times 200) 1600) 1600
    ∷ turned (answer group (times 201) 1608) 20 0
    -- "its bytes aren't three a question"
    ∷ turned (answer group (0 ∷ []) 8) 20 0
    ∷ turned (answer group (take 2 (ask 1 11)) 8) 20 0
    ∷ turned (answer group (ask 1 11 ++ (1 ∷ [])) 8) 20 0
    ∷ turned (answer group (take 599 (times 200)) 1600) 20 0
    ∷ turned (answer group (times 200 ++ (1 ∷ [])) 1600) 20 0
    -- "a place (..) out of range": 0 and C + 1, 257 for 1; in a book without counterparties 1
    ∷ accepted (answer group (ask 3 11) 8) 8
    ∷ turned (answer group (ask 0 11) 8) 20 0
    ∷ turned (answer group (ask 4 11) 8) 20 0
    ∷ turned (answer group (ask 257 11) 8) 20 0
    ∷ turned (answer group (ask 65535 11) 8) 20 0
    ∷ turned (answer (usual [] [] []) (ask 1 11) 8) 20 0
    -- "or kind", "other than 9"
    ∷ accepted (answer group (ask 1 1) 8) 8
    ∷ accepted (answer group (ask 1 8) 8) 8
    ∷ accepted (answer group (ask 1 10) 8) 8
    ∷ turned (answer group (ask 1 0) 8) 20 0
    ∷ turned (answer group (ask 1 9) 8) 20 0
    ∷ turned (answer group (ask 1 12) 8) 20 0
    ∷ turned (answer group (ask 1 255) 8) 20 0
    -- the first, the middle and the last of three
    ∷ turned (answer group (asks (ask 1 9 ∷ ask 1 11 ∷ ask 1 11 ∷ [])) 24) 20 0
    ∷ turned (answer group (asks (ask 1 11 ∷ ask 0 11 ∷ ask 1 11 ∷ [])) 24) 20 0
    ∷ turned (answer group (asks (ask 1 11 ∷ ask 1 11 ∷ ask 1 12 ∷ [])) 24) 20 0
    -- "21 when the answer buffer is shorter than eight bytes a question"
    ∷ turned (answer group (ask 1 11) 0) 21 0
    ∷ turned (answer group (ask 1 11) 7) 21 0
    ∷ turned (answer group (times 200) 1599) 21 0
    ∷ accepted (answer group (ask 1 11) 9) 8
    -- "A question list of 0 bytes gets an answer of 0 bytes", whatever the buffer
    ∷ accepted (answer group [] 0) 0
    ∷ accepted (answer group [] 5) 0
    -- "in that order": 20 before 21
    ∷ turned (answer group (ask 1 9) 0) 20 0
    ∷ turned (answer group (times 201) 0) 20 0
    -- "both after 15"
    ∷ turned (answer over_excluded (ask 0 0) 0) 15 0
    ∷ turned (answer over_total (ask 0 0) 0) 14 0
    ∷ turned (answer not_marked (ask 0 0) 0) 17 1
    ∷ turned (answer [] (ask 0 0) 0) 5 0
    ∷ turned (headroom_answer (take 121 published_bytes) [] (ask 0 0) 0) 1 0
    ∷ turned (answer over_excluded (ask 1 11) 8) 15 0
    -- "eight bytes a question": 150,000,000 and 300,000,000; bytes behind the answers stay
    ∷ same (written (t2 100000000) (asks (ask 1 11 ∷ ask 1 6 ∷ [])) 19)
    (128 ∷ 209 ∷ 240 ∷ 8 ∷ 0 ∷ 0 ∷ 0 ∷ 0 ∷ 0 ∷ 163 ∷ 225 ∷ 17 ∷ 0 ∷ 0 ∷ 0 ∷ 0 ∷ 7 ∷ 7 ∷ 7 ∷ [])
    ∷ same (written group [] 5) (replicate 5 7)
    -- a refusal leaves all as it was
    ∷ same (written group (ask 1 11) 7) (replicate 7 7)
    ∷ same (written group (ask 1 9) 19) (replicate 19 7)
    ∷ []

refusals-hold : T (every (λ t. t) refusals)
unfolding answers_computed refusals
refusals-hold = tt
