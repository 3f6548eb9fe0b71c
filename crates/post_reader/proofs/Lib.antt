-- SPDX-License-Identifier: MIT OR Apache-2.0
pub mod Ahead
pub mod Opening
mod Moving
mod Sounding
pub mod Laws
