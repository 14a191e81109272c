-- "For every list of movements under one schedule, refused ones left out and nobody else writing the book, the charge and the lines after it are those of
-- a report made afresh from the assets then present."
--   moved-after   what an entry promises of both buffers is what a day takes of it
--   day           the book after a list of movements is the one made afresh from the assets then present, byte by byte
--   day-report    and, once one was not refused, the report's buffer starts with the report of that book
use Rattle.std.proofs.Common.{Ok, Err}
use Rattle.refusal.specs.Chain.{Answer}
use mathlib.Core.List.{List, [], ◌∷◌, ◌++◌}
use mathlib.Core.Path.{◌≡◌, refl, sym, ap, ◌∙◌}
use Prim.Native.Nat.{ℕ, ◌+◌, ◌*◌, ◌≤◌, ◌<◌}
use native.Mathlib.Omega.{arith}
use lib.ListN.{length, take, drop, length-append, length-drop}
use lib.Seq.{take_at}
use borrow.Author.Tests.{le-leb}
use Rattle.words.specs.Words.{All}
use Rattle.wire.specs.Bytes.{byte_at}
use Rattle.refusal.specs.Laws.{then-first, then-rest}
use Rattle.book.specs.Records.{version, C}
use Rattle.book.specs.Book.{book_of}
use Rattle.book.specs.Check.{book_check}
use Rattle.book.specs.AcceptedLaws.{accepted}
use Rattle.exposure.specs.Values.{fund_check}
use Rattle.book_checks.specs.Checks.{book_checks}
use Rattle.report.specs.Answer.{report_of, check_of, answer_of, written_by}
use Rattle.movement.specs.Raw.{RawHolding, raw_holdings, made_of}
use Rattle.movement.specs.Movement.{book_in, Movement, resulting, raw_after, present}
use Rattle.movement.proofs.Parse.{Formed, made-made, made-version, made-raw}
use Rattle.movement.proofs.Slices.{own-formed}
use Rattle.movement.proofs.Afresh.{made-own}
use Rattle.movement.proofs.Steps.{resulting-made, formed-after, book-small}
use Rattle.day.specs.Moving.{stood_by, Moved}
use Rattle.day.specs.Day.{Buffers, answer_for, left_by, after_one, after_all, unless_refused, not_refused, afresh, Current}
use Rattle.day.proofs.Shown.{checks-accepted, Shown, not-refused, book-after}

pub moved-after : (schedule : List ℕ) (m : Movement) (book report : List ℕ) {book' report' : List ℕ} {r : Answer} → Moved schedule m book book' report report' r
    → after_one schedule (record { book = book; report = report }) m ≡ record { book = book'; report = report' }
moved-after schedule m book report w = rw (← w.answer, w.bytes, w.stands) refl

module _ (schedule : List ℕ) where
  -- ---- one movement
  module _ (d : Buffers) (m : Movement) where
    abbrev new : List ℕ
    new = resulting (book_in d.book) m

    -- a refused one leaves both as they are
    refused-same : {why : _} → answer_for schedule d m ≡ Err why → after_one schedule d m ≡ d
    refused-same e = ap (λ (r : Answer). left_by schedule r m d) e

    module _ {l : ℕ} (e : answer_for schedule d m ≡ Ok l) where
      shown : Shown schedule m d.book (length d.report) l
      shown = not-refused schedule m d.book (length d.report) e

      now-stands : book_in (after_one schedule d m).book ≡ new
      now-stands = ap (λ (r : Answer). book_in (stood_by r new d.book)) e ∙ book-after schedule m d.book shown

      -- the report that the entry for reports gives of the book that now stands is the one that was written
      now-current : Current schedule new (after_one schedule d m)
      unfolding answer_of check_of book_checks
      now-current =
          let R = report_of schedule new in
          let w = shown in
          let left : (after_one schedule d m).report ≡ R ++ drop l d.report =
          ap (λ (r : Answer). written_by r (report_of schedule (book_in (after_one schedule d m).book)) d.report) e ∙ ap (λ (b : List ℕ). report_of schedule b ++ drop l d.report) now-stands in
          let long : length (after_one schedule d m).report ≡ length d.report = ap length left ∙ omega (arith, length-append R (drop l d.report), length-drop l d.report, w.size, w.report-room) in
          let fits : length R ≤ length (after_one schedule d m).report = omega (arith, long, w.report-room) in
          record {
            stands = now-stands;
            answer = rw (w.schedule-fine, then-first (book_check new) (fund_check (book_of new)) w.checked, then-rest (book_check new) (fund_check (book_of new)) w.checked, le-leb (length R) (length (after_one schedule d m).report) fits);
            report = ap (take (length R)) left ∙ take_at R (drop l d.report) (length R) refl;
          }

  -- ---- a list of them: the buffer's book is made of assets and mitigants that have their lengths
  module _ (start : List ℕ) (fits : 40 + 4 * C start ≤ length start) where
    record At (d : Buffers) (items : List RawHolding) : Type 0 where
      made : book_in d.book ≡ made_of start items
      formed : All (Formed (version start)) items

    step : (d : Buffers) (items : List RawHolding) (m : Movement) {l : ℕ} → At d items → answer_for schedule d m ≡ Ok l → At (after_one schedule d m) (raw_after items m)
    step d items m a e =
        let b = book_in d.book in
        let w = shown d m e in
        let acc = checks-accepted (resulting b m) w.checked in
        let same : raw_holdings b ≡ items = ap raw_holdings a.made ∙ made-raw start fits items a.formed in
        let v : version b ≡ version start = ap version a.made ∙ made-version start fits items in
        record {
          made =
              now-stands d m e ∙ resulting-made b w.stands m w.can acc ∙ ap (λ (xs : List RawHolding). made_of b (raw_after xs m)) same
              ∙ ap (λ (x : List ℕ). made_of x (raw_after items m)) a.made ∙ made-made start fits items (raw_after items m);
          formed = rw v at (formed-after b w.stands items m w.can acc (rw v a.formed));
        }

    days : (ms : List Movement) (d : Buffers) (items : List RawHolding) → At d items → At (after_all schedule d ms) (present items (not_refused schedule d ms))
    unfolding after_all not_refused present
    days [] d items a = a
    days (m ∷ ms) d items a = by (answer_for schedule d m) refl (days ms (after_one schedule d m))
      where
        by : (r : Answer) → answer_for schedule d m ≡ r
            → ((xs : List RawHolding) → At (after_one schedule d m) xs → At (after_all schedule (after_one schedule d m) ms) (present xs (not_refused schedule (after_one schedule d m) ms)))
            → At (after_all schedule (after_one schedule d m) ms) (present items (unless_refused r m (not_refused schedule (after_one schedule d m) ms)))
        by (Ok l) e next = next (raw_after items m) (step d items m a e)
        by (Err why) e next = next items (rw (refused-same d m e) a)

  of-same : {x y : List ℕ} (d : Buffers) → x ≡ y → Current schedule y d → Current schedule x d
  of-same d e c = rw e c

  same-buffers : {x y : Buffers} → x ≡ y → Current schedule (book_in y.book) y → Current schedule (book_in x.book) x
  same-buffers e c = rw e c

  -- a report that is current stays so, and one movement that was not refused makes it so
  stays : (ms : List Movement) (d : Buffers) → Current schedule (book_in d.book) d → Current schedule (book_in (after_all schedule d ms).book) (after_all schedule d ms)
  unfolding after_all
  stays [] d c = c
  stays (m ∷ ms) d c = stays ms (after_one schedule d m) (by (answer_for schedule d m) refl)
    where
      by : (r : Answer) → answer_for schedule d m ≡ r → Current schedule (book_in (after_one schedule d m).book) (after_one schedule d m)
      by (Ok l) e = of-same (after_one schedule d m) (now-stands d m e) (now-current d m e)
      by (Err why) e = same-buffers (refused-same d m e) c

  becomes : (ms : List Movement) (d : Buffers) → 0 < length (not_refused schedule d ms) → Current schedule (book_in (after_all schedule d ms).book) (after_all schedule d ms)
  unfolding after_all not_refused
  becomes [] d h = absurd (omega arith)
  becomes (m ∷ ms) d h = by (answer_for schedule d m) refl h (becomes ms (after_one schedule d m))
    where
      by : (r : Answer) → answer_for schedule d m ≡ r → 0 < length (unless_refused r m (not_refused schedule (after_one schedule d m) ms))
          → (0 < length (not_refused schedule (after_one schedule d m) ms) → Current schedule (book_in (after_all schedule (after_one schedule d m) ms).book) (after_all schedule (after_one schedule d m) ms))
          → Current schedule (book_in (after_all schedule (after_one schedule d m) ms).book) (after_all schedule (after_one schedule d m) ms)
      by (Ok l) e k next = stays ms (after_one schedule d m) (of-same (after_one schedule d m) (now-stands d m e) (now-current d m e))
      by (Err why) e k next = next k

-- "A day starts from an accepted book at the start of a lent buffer"
module _ (schedule : List ℕ) (d : Buffers) (e : book_check (book_in d.book) ≡ Ok tt) (small : (k : ℕ) → byte_at d.book k < 256) where
  pub day : (ms : List Movement) → book_in (after_all schedule d ms).book ≡ afresh (book_in d.book) (not_refused schedule d ms)
  unfolding raw_holdings
  day ms =
      let b = book_in d.book in
      let acc = accepted b e in
      (days schedule b (omega (arith, acc.size)) ms d (raw_holdings b) (record { made = sym (made-own b acc (book-small d.book small)); formed = own-formed b acc })).made

  pub day-report : (ms : List Movement) → 0 < length (not_refused schedule d ms) → Current schedule (afresh (book_in d.book) (not_refused schedule d ms)) (after_all schedule d ms)
  day-report ms h = of-same schedule (after_all schedule d ms) (sym (day ms)) (becomes schedule ms d h)
