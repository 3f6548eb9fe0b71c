-- SPDX-License-Identifier: MIT OR Apache-2.0
pub mod Refusals
pub mod Limits
pub mod Kinds
