use Rattle.std.specs.Borrow.{Bor}
use Rattle.std.proofs.Common.{inl, inr, ℕ, List, map}
use Rattle.ram_run.specs.Words.{IsServedOf, IsGenerateOf, IsAuditOf, IsCheckOf, AsksForSession, IsMirrorOf}
use Rattle.ram_run.proofs.rooms.Rooms.new.Goals as goal

pub returns-in_err-new-in-Some-Run-clause-none : goal.returns-in_err-new-in-Some-Run-clause-none
returns-in_err-new-in-Some-Run-clause-none c = λ need.
    let texts : List (List ℕ) = map (λ (word : Bor (List ℕ)). word.now) c.args.words.now in
    let told : IsServedOf c.in-Some-Run.kind c.in-Some-Run.field-0-1.now texts = rw c.in-Some-Run.field-0-is at c.in-Some-Run.ensures in
    absurd (need.served c.in-Some-Run.kind (c.in-Some-Run.field-0-1.now, told))

pub returns-in_err-new-in-Some-Audit-clause-none : goal.returns-in_err-new-in-Some-Audit-clause-none
returns-in_err-new-in-Some-Audit-clause-none c = λ need.
    let texts : List (List ℕ) = map (λ (word : Bor (List ℕ)). word.now) c.args.words.now in
    let told : IsAuditOf c.in-Some-Audit.field-0-0.now texts = rw c.in-Some-Audit.field-0-is at c.in-Some-Audit.ensures in
    absurd (need.certificate (c.in-Some-Audit.field-0-0.now, inl told))

pub returns-in_err-new-in-Some-Check-clause-none : goal.returns-in_err-new-in-Some-Check-clause-none
returns-in_err-new-in-Some-Check-clause-none c = λ need.
    let texts : List (List ℕ) = map (λ (word : Bor (List ℕ)). word.now) c.args.words.now in
    let told : IsCheckOf c.in-Some-Check.field-0-0.now texts = rw c.in-Some-Check.field-0-is at c.in-Some-Check.ensures in
    absurd (need.certificate (c.in-Some-Check.field-0-0.now, inr told))

pub returns-in_ok-new-in-Some-Run-clause-none : goal.returns-in_ok-new-in-Some-Run-clause-none
returns-in_ok-new-in-Some-Run-clause-none c = λ need.
    let texts : List (List ℕ) = map (λ (word : Bor (List ℕ)). word.now) c.args.words.now in
    let told : IsServedOf c.in-Some-Run.kind c.in-Some-Run.field-0-1.now texts = rw c.in-Some-Run.field-0-is at c.in-Some-Run.ensures in
    absurd (need.served c.in-Some-Run.kind (c.in-Some-Run.field-0-1.now, told))

pub returns-in_ok-new-in-Some-Audit-clause-none : goal.returns-in_ok-new-in-Some-Audit-clause-none
returns-in_ok-new-in-Some-Audit-clause-none c = λ need.
    let texts : List (List ℕ) = map (λ (word : Bor (List ℕ)). word.now) c.args.words.now in
    let told : IsAuditOf c.in-Some-Audit.field-0-0.now texts = rw c.in-Some-Audit.field-0-is at c.in-Some-Audit.ensures in
    absurd (need.certificate (c.in-Some-Audit.field-0-0.now, inl told))

pub returns-in_ok-new-in-Some-Check-clause-none : goal.returns-in_ok-new-in-Some-Check-clause-none
returns-in_ok-new-in-Some-Check-clause-none c = λ need.
    let texts : List (List ℕ) = map (λ (word : Bor (List ℕ)). word.now) c.args.words.now in
    let told : IsCheckOf c.in-Some-Check.field-0-0.now texts = rw c.in-Some-Check.field-0-is at c.in-Some-Check.ensures in
    absurd (need.certificate (c.in-Some-Check.field-0-0.now, inr told))

pub returns-in_err-new-in-Some-Nbd-clause-none : goal.returns-in_err-new-in-Some-Nbd-clause-none
returns-in_err-new-in-Some-Nbd-clause-none c = λ need.
    let texts : List (List ℕ) = map (λ (word : Bor (List ℕ)). word.now) c.args.words.now in
    let told : AsksForSession c.in-Some-Nbd.field-0-0.now (map (λ (word : Bor (List ℕ)). word.now) c.in-Some-Nbd.field-0-1.now) texts =
    rw c.in-Some-Nbd.field-0-is at c.in-Some-Nbd.ensures in
    absurd (need.session (c.in-Some-Nbd.field-0-0.now, told.faults, (_, told.words_are, told.read)))

pub returns-in_ok-new-in-Some-Nbd-clause-none : goal.returns-in_ok-new-in-Some-Nbd-clause-none
returns-in_ok-new-in-Some-Nbd-clause-none c = λ need.
    let texts : List (List ℕ) = map (λ (word : Bor (List ℕ)). word.now) c.args.words.now in
    let told : AsksForSession c.in-Some-Nbd.field-0-0.now (map (λ (word : Bor (List ℕ)). word.now) c.in-Some-Nbd.field-0-1.now) texts =
    rw c.in-Some-Nbd.field-0-is at c.in-Some-Nbd.ensures in
    absurd (need.session (c.in-Some-Nbd.field-0-0.now, told.faults, (_, told.words_are, told.read)))

pub returns-in_err-new-in-Some-Generate-clause-none : goal.returns-in_err-new-in-Some-Generate-clause-none
returns-in_err-new-in-Some-Generate-clause-none c = λ need.
    let texts : List (List ℕ) = map (λ (word : Bor (List ℕ)). word.now) c.args.words.now in
    let told : IsGenerateOf c.in-Some-Generate.field-0-0.now c.in-Some-Generate.field-0-1 texts = rw c.in-Some-Generate.field-0-is at c.in-Some-Generate.ensures in
    absurd (need.generate (c.in-Some-Generate.field-0-0.now, c.in-Some-Generate.field-0-1, told))

pub returns-in_ok-new-in-Some-Generate-clause-none : goal.returns-in_ok-new-in-Some-Generate-clause-none
returns-in_ok-new-in-Some-Generate-clause-none c = λ need.
    let texts : List (List ℕ) = map (λ (word : Bor (List ℕ)). word.now) c.args.words.now in
    let told : IsGenerateOf c.in-Some-Generate.field-0-0.now c.in-Some-Generate.field-0-1 texts = rw c.in-Some-Generate.field-0-is at c.in-Some-Generate.ensures in
    absurd (need.generate (c.in-Some-Generate.field-0-0.now, c.in-Some-Generate.field-0-1, told))

pub returns-in_err-new-in-Some-Mirror-clause-none : goal.returns-in_err-new-in-Some-Mirror-clause-none
returns-in_err-new-in-Some-Mirror-clause-none c = λ need.
    let texts : List (List ℕ) = map (λ (word : Bor (List ℕ)). word.now) c.args.words.now in
    let told : IsMirrorOf c.in-Some-Mirror.field-0-0.now c.in-Some-Mirror.field-0-1.now texts = rw c.in-Some-Mirror.field-0-is at c.in-Some-Mirror.ensures in
    absurd (need.mirror (c.in-Some-Mirror.field-0-0.now, c.in-Some-Mirror.field-0-1.now, told))

pub returns-in_ok-new-in-Some-Mirror-clause-none : goal.returns-in_ok-new-in-Some-Mirror-clause-none
returns-in_ok-new-in-Some-Mirror-clause-none c = λ need.
    let texts : List (List ℕ) = map (λ (word : Bor (List ℕ)). word.now) c.args.words.now in
    let told : IsMirrorOf c.in-Some-Mirror.field-0-0.now c.in-Some-Mirror.field-0-1.now texts = rw c.in-Some-Mirror.field-0-is at c.in-Some-Mirror.ensures in
    absurd (need.mirror (c.in-Some-Mirror.field-0-0.now, c.in-Some-Mirror.field-0-1.now, told))
