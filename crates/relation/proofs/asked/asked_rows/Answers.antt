use mathlib.Core.Path.{sym, ◌∙◌, ap}
use Rattle.rules.specs.declared.Four.{Four}
use Rattle.rules.specs.laws.Table.{row_of, row_for}
use Rattle.rules.specs.laws.Columns.{four_rows}
use Rattle.relation.proofs.asked.asked_rows.Goals as goal

pub returns-in-Role : goal.returns-in-Role
returns-in-Role c = λ P h.
    let e = c.in-Role.is in
    let q = c.asked_row-r.ensures P (ap (λ (r : Four). r.a) (h ∙ ap (four_rows (row_of P)) e)) in
    rw e (λ i. record { a = q i; b = q i; c = q i; d = q i })

pub returns-in-Intersection : goal.returns-in-Intersection
returns-in-Intersection c = λ P h.
    let e = c.in-Intersection.is in
    let k = h ∙ ap (four_rows (row_of P)) e in
    rw e (λ i. record {
      a = c.asked_row-a.ensures P (ap (λ (r : Four). r.a) k) i;
      b = c.asked_row-b.ensures P (ap (λ (r : Four). r.b) k) i;
      c = (c.asked_row-c.ensures P (ap (λ (r : Four). r.c) k ∙ ap (row_of P) (sym c.third_of.ensures))
          ∙ ap (row_for P c.args.e) c.third_of.ensures) i;
      d =
          (c.asked_row-d.ensures P (ap (λ (r : Four). r.d) k ∙ ap (row_of P) (sym c.fourth_of.ensures))
          ∙ ap (row_for P c.args.e) c.fourth_of.ensures) i;
    })
