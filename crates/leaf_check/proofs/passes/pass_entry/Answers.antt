-- One entry of a pass: its depth, then its pointer. Assumes nothing.
use Rattle.std.proofs.Common.{◌≢◌, sym, refl, ◌∙◌, add-one, arith, eq-eqb, ne_eqb, le-ltb, lt-ltb}
use Rattle.leaf_list.specs.Register.{key_at, in_use}
use Rattle.leaf_check.proofs.EntryTests.{beyond_free, record_free}
use Rattle.leaf_check.proofs.PassTests.{pass_refused, nil_fits, live_fits, pass_lost, pass_made}
use Rattle.leaf_check.proofs.passes.pass_entry.Goals as goal
use Rattle.leaf_check.proofs.passes.pass_entry.Goals.{then-r-ne65535-via-then-r-ne65535, then-r-ne65535-via-else-r-ne65535+then-s-below}

pub returns-then-not-depth_fits : goal.returns-then-not-depth_fits
returns-then-not-depth_fits c =
    let a = c.args in
    λ w d pre b used g q k e τ dummy m. pass_refused w a.keys.now used k a.s d a.below a.p pre b (sym c.depth_fits.ensures ∙ c.if-not-depth_fits.true) τ dummy m

pub returns-then-not-key_fits : goal.returns-then-not-key_fits
returns-then-not-key_fits c =
    let a = c.args in
    let fits = sym c.depth_fits.ensures ∙ c.if-not-depth_fits.false in
    λ w d pre b used g q k e τ dummy m. pass_lost w a.keys.now used k a.s d a.below a.p pre b fits m
    (sym (live_fits w a.keys.now used k a.s d a.below a.p pre b fits m g q c.if-r-keys.true) ∙ sym c.key_fits.ensures ∙ c.if-not-key_fits.true)

pub returns-then-r-keys : goal.returns-then-r-keys
returns-then-r-keys c =
    let a = c.args in
    let fits = sym c.depth_fits.ensures ∙ c.if-not-depth_fits.false in
    let inside = c.if-r-keys.true in
    λ w d pre b used g q k e τ dummy m.
    let live : a.p ≢ 65535 = λ z. omega (arith, g.long, g.few, inside) in
    pass_made w a.keys.now used k a.s d a.below a.p pre b fits m a.most e _
    (sym (live_fits w a.keys.now used k a.s d a.below a.p pre b fits m g q inside) ∙ sym c.key_fits.ensures ∙ c.if-not-key_fits.false)
    refl refl (rw (ne_eqb a.p 65535 live)) (rw (ne_eqb a.p 65535 live))

pub returns-then-r-ne65535 : goal.returns-then-r-ne65535
returns-then-r-ne65535 c =
    let a = c.args in
    let fits = sym c.depth_fits.ensures ∙ c.if-not-depth_fits.false in
    λ w d pre b used g q k e τ dummy m. pass_lost w a.keys.now used k a.s d a.below a.p pre b fits m (
    elim c.then-r-ne65535.branch [
      | then-r-ne65535-via-then-r-ne65535 v ↦ sym (record_free w (key_at a.keys.now) (in_use used) a.s.disc τ d a.p v.if-r-ne65535.true (beyond_free used a.p (omega (arith, g.long, c.if-r-keys.false))))
      | then-r-ne65535-via-else-r-ne65535+then-s-below v ↦ sym (nil_fits w a.keys.now used k a.s d a.below a.p pre b fits m v.if-r-ne65535.false) ∙ le-ltb a.below a.s.low v.if-s-below.true
    ])

pub returns : goal.returns
returns c =
    let a = c.args in
    let fits = sym c.depth_fits.ensures ∙ c.if-not-depth_fits.false in
    let nil = c.if-r-ne65535.false in
    λ w d pre b used g q k e τ dummy m. pass_made w a.keys.now used k a.s d a.below a.p pre b fits m a.most e _
    (sym (nil_fits w a.keys.now used k a.s d a.below a.p pre b fits m nil) ∙ lt-ltb a.below a.s.low c.if-s-below.false)
    refl refl (rw (eq-eqb a.p 65535 nil)) (rw (eq-eqb a.p 65535 nil) (add-one _))
