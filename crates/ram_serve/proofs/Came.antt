-- Bytes of a message that came, one piece after another.
use Rattle.std.specs.Prelude.{◌≡◌, ℕ, ◌+◌, ◌≤◌, Option, None, Some, is_some, Err, List, [], ◌++◌, length}
use Rattle.std.proofs.Common.{arith, sym, ap, ◌∙◌, subst, append_assoc, length-append}
use Rattle.std.specs.Io.KnownBytes.{Consumes}
use Rattle.model_counts.specs.Counts.{Rose}
use Rattle.ram_receive.specs.Receiving.{Went}
use Rattle.ram_machine.specs.declared.status.Status.{Status}
use Rattle.ram_machine.specs.declared.status.Status.TheVariants as statuses
use Rattle.ram_serve.specs.Messages.{EndsAfter, FailsAfter, MoreRule, OverRule}

consumes_on : (first mid last : Option (List ℕ)) (xs ys : List ℕ) → Consumes first mid xs → Consumes mid last ys → is_some mid ≡ is_some first → Consumes first last (xs ++ ys)
consumes_on None mid last xs ys one two known = tt
consumes_on (Some zs) None last xs ys one two known = elim one [ ]
consumes_on (Some zs) (Some ws) None xs ys one two known = elim two [ ]
consumes_on (Some zs) (Some ws) (Some vs) xs ys one two known = one ∙ ap (λ (l : List ℕ). xs ++ l) two ∙ sym (append_assoc xs ys vs)

pub went_on : (first mid last : Option (List ℕ)) (xs ys : List ℕ) → Went first mid xs → Went mid last ys → Went first last (xs ++ ys)
went_on first mid last xs ys one two = record {
  next = consumes_on first mid last xs ys one.next two.next one.known;
  known = two.known ∙ one.known;
}

-- all of a part came
pub over_more : (first mid last : Option (List ℕ)) (faults faults' faults'' : ℕ) (before part : ℕ) (bytes more : List ℕ)
    → (length bytes ≡ before) × Went first mid bytes × (faults' ≡ faults) → (length more ≡ part) × Went mid last more × (faults'' ≡ faults')
    → (length (bytes ++ more) ≡ before + part) × Went first last (bytes ++ more) × (faults'' ≡ faults)
over_more first mid last faults faults' faults'' before part bytes more one two =
    (omega (arith, one.0, two.0, length-append bytes more), went_on first mid last bytes more one.1 two.1, two.2 ∙ one.2)

-- a part of a part came
pub over_stopped : (first mid last : Option (List ℕ)) (faults faults' faults'' : ℕ) (before part count : ℕ) (bytes held : List ℕ) (status : Status) → before + part ≤ count
    → (length bytes ≡ before) × Went first mid bytes × (faults' ≡ faults) → MoreRule mid last faults' faults'' part held (Err status)
    → OverRule first last faults faults'' count (Err status)
over_stopped first mid last faults faults' faults'' before part count bytes held statuses.Script fits one two =
    let ends : EndsAfter first last faults faults'' (bytes ++ two.0) =
    record { went = went_on first mid last bytes two.0 one.1 two.2.went; ended = two.2.ended; count = two.2.count ∙ one.2 } in
    ([], (bytes ++ two.0, omega (arith, one.0, two.1, fits, length-append bytes two.0), ends))
over_stopped first mid last faults faults' faults'' before part count bytes held statuses.SourceFault fits one two =
    let fails : FailsAfter first last faults faults'' (bytes ++ two.0) =
    record { went = went_on first mid last bytes two.0 one.1 two.2.went; count = subst (λ (n : ℕ). Rose n faults'') one.2 two.2.count } in
    ([], (bytes ++ two.0, omega (arith, one.0, two.1, fits, length-append bytes two.0), fails))
over_stopped first mid last faults faults' faults'' before part count bytes held statuses.Done fits one two = absurd two
over_stopped first mid last faults faults' faults'' before part count bytes held statuses.Differs fits one two = absurd two
over_stopped first mid last faults faults' faults'' before part count bytes held statuses.Usage fits one two = absurd two
over_stopped first mid last faults faults' faults'' before part count bytes held statuses.ImageFault fits one two = absurd two
over_stopped first mid last faults faults' faults'' before part count bytes held statuses.SinkFault fits one two = absurd two
over_stopped first mid last faults faults' faults'' before part count bytes held statuses.NoMemory fits one two = absurd two
over_stopped first mid last faults faults' faults'' before part count bytes held statuses.NotADisc fits one two = absurd two
