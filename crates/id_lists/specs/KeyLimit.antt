-- As many keys as ten signers can have, or list.
use Rattle.std.specs.Prelude.{ℕ, ◌*◌}
use Rattle.layout.specs.Limits.{list_limit, signer_limit}

abbrev pub key_limit : ℕ
key_limit = signer_limit * list_limit
