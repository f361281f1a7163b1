-- `write_request`: the writer's two questions are answered yes.
-- Assumes nothing.
use Rattle.std.specs.Prelude.{Ok}
use Rattle.std.proofs.Common.{◌≡◌, ℕ, length, arith, length-take, rules}
use Rattle.layout.specs.Encode.{encode}
use Rattle.layout.specs.Messages.{nonce_request}
use Rattle.body.specs.Body.{root_of, request_of}
use Rattle.step_definition.specs.Effects.{root_for}
use Rattle.state.proofs.Given.{coordinator-bytes}
use Rattle.starts.specs.Starts.{request_from, request_bytes}
use Rattle.starts.proofs.Writes.{request-within, wrote_length, wrote_bytes}
use mathlib.Core.Path.{sym, ◌∙◌}
use Rattle.std.proofs.lemmas.Grind.{common_steps}
use Rattle.starts.proofs.nonces.write_request.Goals as goal

pub slice_bounds-bytes-end : goal.slice_bounds-bytes-end
slice_bounds-bytes-end c =
    omega (arith, coordinator-bytes c.args.s _ c.well_formed.0, c.requires.0)

pub slice_bounds-write_nonce_request-end : goal.slice_bounds-write_nonce_request-end
slice_bounds-write_nonce_request-end c =
    rw length-take (omega (arith, coordinator-bytes c.args.s _ c.well_formed.0, c.requires.0))

pub returns-in-Ok : goal.returns-in-Ok
unfolding request_bytes request_of root_of root_for
returns-in-Ok c =
    let a = c.args in
    let m = nonce_request (request_from a.signature_type a.root a.s) in
    let fine = request-within a.signature_type a.root a.s c.requires.0 in
    let w = c.write_nonce_request-written.ensures in
    let n : c.write_nonce_request-written.result ≡ Ok (length (encode m)) =
    wrote_length m a.out.now c.requires.1 fine w in
    let told = c.in-Ok.is in
    record { counted = cc; buffered = wrote_bytes m a.out.now c.requires.1 fine w }

pub returns-in-Err : goal.returns-in-Err
unfolding request_bytes request_of root_of root_for
returns-in-Err c =
    let a = c.args in
    let m = nonce_request (request_from a.signature_type a.root a.s) in
    let fine = request-within a.signature_type a.root a.s c.requires.0 in
    let w = c.write_nonce_request-written.ensures in
    let n : c.write_nonce_request-written.result ≡ Ok (length (encode m)) =
    wrote_length m a.out.now c.requires.1 fine w in
    let told = c.in-Err.is in
    let z : ◌≡◌ {A = ℕ} 0 1 = cc in
    let f : ⊥ = omega arith in
    absurd f
