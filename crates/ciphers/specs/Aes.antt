-- AES-128, as `aes_rules` defines it. Assumes nothing.
pub use Rattle.aes_rules.specs.Aes.{aes_128}
